-- How the ends of a board are kept, and what of them contracts see.
use Rattle.std.specs.Prelude.{◌≡◌, ◌≤◌, true, false, []}
use Rattle.std.specs.Arc.{arc_value}
use Rattle.crossbeam_utils.specs.Seq.{cell_view}
use Rattle.m17_board.specs.declared.poster.Poster.TheInside as posters
use Rattle.m17_board.specs.declared.eye.Eye.TheInside as eyes
use Rattle.m17_board.specs.declared.note.Note.TheInside as notes
use Rattle.m17_board.specs.Glance.{sight_of}
use Rattle.m17_board.specs.Ends.{PostEnd, EyeEnd, NoteEnd}

abbrev pub post_end : posters.Inside → PostEnd
post_end s = record {
  cell = (arc_value s.cell).table.shared.table_id;
  number = s.number;
  posted = (cell_view s.pass).known;
  taken = (cell_view s.pass).taken;
}

-- the pass is the poster's of its cell, and what is kept is that of what was posted
pub record IsPosting (s : posters.Inside) : Type 0 where
  pub fits : s.pass.table_id ≡ (arc_value s.cell).table.shared.table_id
  pub posts : (cell_view s.pass).posts ≡ true
  pub sight : s.sight ≡ sight_of (cell_view s.pass).known
  pub fewer : s.sight.admitted ≤ s.sight.records
  pub nobody : s.nobody ≡ 0

abbrev pub eye_end : eyes.Inside → EyeEnd
eye_end s = record {
  cell = (arc_value s.cell).table.shared.table_id;
  number = s.number;
  known = (cell_view s.pass).known;
  seen = (cell_view s.pass).seen;
}

-- the pass is one of the cell, and not the poster's
pub record IsWatching (s : eyes.Inside) : Type 0 where
  pub fits : s.pass.table_id ≡ (arc_value s.cell).table.shared.table_id
  pub reads : (cell_view s.pass).posts ≡ false

abbrev pub note_end : notes.Inside → NoteEnd
note_end s = record {
  cell = s.pass.table_id;
  number = s.number;
  known = (cell_view s.pass).known;
}

-- the pass can be taken in
pub record IsNote (s : notes.Inside) : Type 0 where
  pub fresh : s.pass.me.1 ≡ []
  pub reads : (cell_view s.pass).posts ≡ false
