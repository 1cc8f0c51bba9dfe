use Rattle.std.proofs.Common.{[], ◌∷◌}
use Rattle.m17_lane.proofs.pusher.Pusher.note.Given as goal

-- what is noted is the item that came back
abbrev pub ghosts-note_refused : goal.ghosts-note_refused
ghosts-note_refused g a = record { items = a.item.now ∷ [] }
