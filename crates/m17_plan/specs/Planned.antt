-- When a plan can be run, and what it comes to for each link and each module. Links and modules are numbered from 0,
-- modules in the order of their letters.
use Rattle.std.specs.Prelude.{◌≡◌, ◌<◌, ℕ, true, length, slice_index}
use Rattle.m17_control.specs.Modules.{serves, letters_of}
use Rattle.m17_directory.specs.Entries.{Setup}
use Rattle.m17_module.specs.Items as module_items
use Rattle.m17_plan.specs.declared.plan.Plan.{Plan}

-- What the directory of a replay's one link is made with, and what each of its modules.
abbrev pub setup_of : Plan → Setup
setup_of plan =
    record { link = 0; name = plan.name; places = plan.places; modules = plan.modules }

abbrev pub module_setup : Plan → ℕ → module_items.Setup
module_setup plan letter =
    record { places = plan.places; parrot = serves plan.parrots letter; limit = plan.limit }

-- The plan can be run: 1 to 256 places, a module or more, and parrots among the modules.
pub record IsPlan (plan : Plan) : Type 0 where
  pub some_place : 0 < plan.places
  pub at_most : plan.places < 257
  pub some_module : 0 < length (letters_of plan.modules)
  pub parrots : (letter : ℕ) → serves plan.parrots letter ≡ true → serves plan.modules letter ≡ true

-- How many modules the plan has.
abbrev pub module_count : Plan → ℕ
module_count plan = length (letters_of plan.modules)

-- What the directory of the link with this number is made with.
abbrev pub link_setup : Plan → ℕ → Setup
link_setup plan i = record (setup_of plan) { link = i }

-- The letter of the module with this number, and what that module is made with.
abbrev pub letter_of : Plan → ℕ → ℕ
letter_of plan m = slice_index (letters_of plan.modules) m

abbrev pub setup_at : Plan → ℕ → module_items.Setup
setup_at plan m = module_setup plan (letter_of plan m)
