-- How a run is read off what was handed in and what came back.
use Rattle.std.specs.Prelude.{◌≡◌, ℕ, List, map}
use Rattle.m17_ports.specs.Book.{BookTold}
use Rattle.m17_ports.specs.Ear.{EarTold}
use Rattle.m17_ports.specs.Mouth.{MouthTold}
use Rattle.m17_reflect.specs.declared.returned.Returned.{Returned}
use Rattle.m17_reflect.specs.declared.returned.Refused.{Refused}
use Rattle.m17_io.specs.Faults.{HasRisen}
use Rattle.m17_plan.specs.declared.plan.Plan.{Plan}
use Rattle.m17_reflect.specs.declared.returned.HouseRefusal.{HouseRefusal}
use Rattle.m17_reflect.specs.declared.returned.HouseRefusal.TheVariants.{Crew, NoMemory}
use Rattle.m17_reflect.specs.Run.{Run, Devices, Handed}

-- The devices, kind by kind.
pub record Kinds (E M B : Type 0) : Type 0 where
  pub ears : List E
  pub mouths : List M
  pub traces : List B
  pub books : List B

-- What the devices tell, by what is told of each kind.
abbrev pub devices_of : {E M B EL ML BL : Type 0} → (E → EarTold EL) → (M → MouthTold ML)
    → (B → BookTold BL) → Kinds E M B → Devices EL ML BL
devices_of ear mouth book d = record {
  ears = map ear d.ears;
  mouths = map mouth d.mouths;
  traces = map book d.traces;
  books = map book d.books;
}

module _ {E M B : Type 0} where
  abbrev pub kinds_back : Returned E M B → Kinds E M B
  kinds_back r = record {
    ears = r.ears.items;
    mouths = r.mouths.items;
    traces = r.traces.items;
    books = r.books.items;
  }

  abbrev pub kinds_refused : Refused E M B → Kinds E M B
  kinds_refused r = record {
    ears = r.ears.items;
    mouths = r.mouths.items;
    traces = r.traces.items;
    books = r.books.items;
  }

  -- What came back beside the devices.
  abbrev pub handed_of : Returned E M B → Handed
  handed_of r = record {
    trails = r.trails.items;
    queues = map (λ row. row.items) r.queues.items;
    roll = r.roll;
    missed = r.missed.items;
    admitted = r.admitted.items;
    link_tapes = map (λ tape. tape.items) r.link_tapes.items;
    tapes = r.tapes.items;
    lost = r.lost;
    book_failed = r.book_failed;
  }

-- The run of this plan over these devices, as it shows itself in what came back.
abbrev pub run_of : {E M B EL ML BL : Type 0} → (E → EarTold EL) → (M → MouthTold ML)
    → (B → BookTold BL) → Plan → Kinds E M B → Returned E M B → Run EL ML BL
run_of ear mouth book plan d r = record {
  plan = plan;
  before = devices_of ear mouth book d;
  after = devices_of ear mouth book (kinds_back r);
  handed = handed_of r;
}

-- Why nothing was run, as the crew's count of refusals tells it before and after: it rose where the crew refused a start,
-- and stands where there was no memory.
pub record IsRefusedFor (why : HouseRefusal) (before after : ℕ) : Type 0 where
  pub crew : why ≡ Crew → HasRisen before after
  pub no_memory : why ≡ NoMemory → after ≡ before
