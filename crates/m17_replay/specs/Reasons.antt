-- The words of the reasons for which a trace is refused, and how they are told.
use Rattle.std.specs.Prelude.{ℕ, List, [], ◌∷◌, ◌++◌, codes}
use Rattle.m17_print.specs.Line.{hex_of}
use Rattle.m17_book.specs.declared.refusal.FormRefusal.{FormRefusal}
use Rattle.m17_book.specs.declared.refusal.FormRefusal.TheVariants as form
use Rattle.m17_replay.specs.declared.reason.TraceReason.{TraceReason}
use Rattle.m17_replay.specs.declared.reason.TraceReason.TheVariants.{Cut, Kind, Field, Large}

abbrev pub trace_reason_words : TraceReason → List ℕ
trace_reason_words Cut = codes "cut"
trace_reason_words (Kind byte) = codes "kind " ++ hex_of (byte ∷ [])
trace_reason_words Field = codes "field"
trace_reason_words Large = codes "large"

-- The refusal that a place and a reason tell.
abbrev pub refusal_told : ℕ → TraceReason → FormRefusal
refusal_told place Cut = form.Cut place
refusal_told place (Kind byte) = form.Kind place byte
refusal_told place Field = form.Field place
refusal_told place Large = form.Large place
