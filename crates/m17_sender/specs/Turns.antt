-- In which order the sender may say and note things.
use Rattle.std.specs.Prelude.{◌≡◌, ℕ, ◌≤◌, List, ◌∷◌, ◌++◌, length, Contains}
use Rattle.m17_values.specs.declared.member.Member.{Member}
use Rattle.m17_control.specs.declared.event.Why.{Why}
use Rattle.m17_control.specs.declared.item.Item.{Item}
use Rattle.m17_control.specs.declared.item.Said.TheVariants.{Hello, Bye}
use Rattle.m17_sender.specs.Acts.{Act, notes_of}

-- A Bye of the member was said, of an item with this link.
pub record HasBye (acts : List Act) (link : ℕ) (member : Member) : Type 0 where
  pub m : ℕ
  pub q : ℕ
  pub item : Item
  pub why : Why
  pub was_said : Contains acts (Act.Says m q item)
  pub its_member : item.member ≡ member
  pub its_link : item.link ≡ link
  pub its_body : item.body ≡ Bye why

-- The act may come next: a Hello behind at least as many notes to its link as it waits for, a note
-- behind the Bye of its member on its link, anything else always.
abbrev pub MayFollow : List Act → Act → Type 0
MayFollow acts (Act.Says m q item) =
    (after : ℕ) → item.body ≡ Hello after → after ≤ length (notes_of item.link acts)
MayFollow acts (Act.Answers direct) = Unit {0}
MayFollow acts (Act.Notes link member) = HasBye acts link member

-- Each act may follow those that stand before it.
pub record Turns (acts : List Act) : Type 0 where
  pub each : (front rest : List Act) (act : Act) → acts ≡ front ++ act ∷ rest →
      MayFollow front act
