-- A command that came to its ending, and then its last line.
use Rattle.std.proofs.Common.{◌≡◌, ◌≢◌, ℕ, List, ◌++◌, Option, Some, sym, ap, subst, ◌∙◌, append_assoc}
use Rattle.m17_io.specs.Source.{SourceTold}
use Rattle.m17_print.specs.Endings.{Grows}
use Rattle.m17_app.specs.declared.status.Status.{Status}
use Rattle.m17_app.specs.declared.status.Status.TheVariants.{WriteFailed}
use Rattle.m17_app.specs.Status.{Streams, WritesLast}
use Rattle.m17_app.specs.Written.{AddsText, CutsBy, EndsBy}

module _ {E : Type 0} where
  -- what an ending said of the input, and what it printed, before the last line
  abbrev pub Said : (E → List ℕ → Option (List ℕ) → Type 0) → E → Streams → Streams → Type 0
  Said says ending before mid = (input : List ℕ) → before.source.left ≡ Some input → says ending input mid.source.left

  abbrev pub Printed : (E → List ℕ → Option (List ℕ) → List ℕ → Type 0) → E → Streams → Streams → Type 0
  Printed prints ending before mid = (input first : List ℕ) → before.source.left ≡ Some input → before.sink.written ≡ Some first
      → (text : List ℕ) × (mid.sink.written ≡ Some (first ++ text)) × prints ending input mid.source.left text

  -- the last line stands written too
  pub ends_by : (says : E → List ℕ → Option (List ℕ) → Type 0) (prints : E → List ℕ → Option (List ℕ) → List ℕ → Type 0) (line : List ℕ) (own status : Status) (ending : E)
      (before mid after : Streams) → Said says ending before mid → Printed prints ending before mid → Grows before.sink.written mid.sink.written
      → WritesLast line own status mid after → status ≢ WriteFailed → EndsBy says prints line ending before after
  ends_by says prints line own status ending before mid after said printed grows last other =
      let left : after.source.left ≡ mid.source.left = ap (λ (told : SourceTold). told.left) last.input_untouched in
      record {
        said = λ input is. subst (λ (rest : Option (List ℕ)). says ending input rest) (sym left) (said input is);
        printed = λ input first is is_first.
            let text = printed input first is is_first in (
              text.0,
              last.whole other (first ++ text.0) text.1,
              subst (λ (rest : Option (List ℕ)). prints ending input rest text.0) (sym left) text.2,
            );
        last = λ first is_first. let text = grows first is_first in (text.0, last.whole other (first ++ text.0) text.1);
      }

  -- or a first part of it
  pub cuts_by : (says : E → List ℕ → Option (List ℕ) → Type 0) (prints : E → List ℕ → Option (List ℕ) → List ℕ → Type 0) (line : List ℕ) (own status : Status) (ending : E)
      (before mid after : Streams) → Said says ending before mid → Printed prints ending before mid → WritesLast line own status mid after
      → CutsBy says prints line ending before after
  cuts_by says prints line own status ending before mid after said printed last =
      let left : after.source.left ≡ mid.source.left = ap (λ (told : SourceTold). told.left) last.input_untouched in
      record {
        said = λ input is. subst (λ (rest : Option (List ℕ)). says ending input rest) (sym left) (said input is);
        printed = λ input first is is_first.
            let text = printed input first is is_first in (
              text.0,
              last.part (first ++ text.0) text.1,
              subst (λ (rest : Option (List ℕ)). prints ending input rest text.0) (sym left) text.2,
            );
      }

  -- what was printed and the last line are the whole text of the input
  pub adds_text : (says : E → List ℕ → Option (List ℕ) → Type 0) (prints : E → List ℕ → Option (List ℕ) → List ℕ → Type 0) (is_text : List ℕ → List ℕ → Type 0) (line : List ℕ)
      (own status : Status) (ending : E) (before mid after : Streams) → Said says ending before mid → Printed prints ending before mid
      → WritesLast line own status mid after → status ≢ WriteFailed
      → ((input text : List ℕ) (left : Option (List ℕ)) → says ending input left → prints ending input left text → is_text input (text ++ line)) → AddsText is_text before after
  adds_text says prints is_text line own status ending before mid after said printed last other is_whole = λ input first is is_first.
      let text = printed input first is is_first in (
        text.0 ++ line,
        last.whole other (first ++ text.0) text.1 ∙ ap Some (append_assoc first text.0 line),
        is_whole input text.0 mid.source.left (said input is) text.2,
      )
