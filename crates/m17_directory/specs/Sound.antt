-- For proofs alone: what the fields of a directory are seen as, and what is true of them.
use Rattle.std.specs.Prelude.{◌≡◌, ◌≤◌, ◌<◌, false}
use Rattle.m17_directory.specs.StandsFor.{DirectoryKept, IsBounded}
use Rattle.m17_directory.specs.declared.directory.Directory.TheInside.{Inside}

abbrev pub kept_of : Inside → DirectoryKept
kept_of d = record {
  setup = record { link = d.link; name = d.name; places = d.places; modules = d.modules };
  moment = d.moment;
  known = d.people.known;
  asked = d.people.asked;
  departing = d.people.departing;
  faults = d.faults;
  ended = d.ended;
}

pub record IsSound (d : Inside) : Type 0 where
  pub bounded : IsBounded (kept_of d)
  pub places : d.places ≤ 256
  pub faults : d.ended ≡ false → d.faults < 16
