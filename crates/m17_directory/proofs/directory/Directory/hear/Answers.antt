use Rattle.std.proofs.Common.{◌≡◌, ℕ, ◌+◌, ◌||◌, Bool, leb, max, List, length, refl, ap, sym, ◌∙◌, subst, arith}
use Rattle.m17_values.specs.declared.heard.Heard.{Heard}
use Rattle.m17_directory.specs.declared.known.Known.{Known}
use Rattle.m17_directory.specs.Entries.{Notice, Entry, Says, moment_of, is_end}
use Rattle.m17_directory.specs.Outcome.{Here}
use Rattle.m17_directory.specs.Sound.{kept_of}
use Rattle.m17_directory.specs.StandsFor.{DirectoryKept, StandsFor, IsHeard, IsBounded, HasGrown}
use Rattle.m17_directory.specs.Steps.{IsTaken}
use Rattle.m17_directory.proofs.Bounds.{IsSeated, seated_known}
use Rattle.m17_directory.proofs.Heard.{hear_stands}
use Rattle.m17_directory.proofs.Kept.{bounded_by, seated_of, below_most}
use Rattle.m17_directory.proofs.Told.{asked_iff, asked_index, ended_iff, has_grown, still_together}
use Rattle.m17_directory.proofs.directory.Directory.hear.Goals as goal

abbrev new_of : goal.After-hear → DirectoryKept
new_of c = kept_of (record c.self.inside {
  moment = c.max-moment.result;
  faults = c.faults_with-faults.result;
  ended = c.ends_by-ends.result;
  people = c.hear.new.self;
})

abbrev here_of : goal.After-hear → ℕ → Here
here_of c index = record { setup = (kept_of c.self.inside).setup; index = index; moment = c.max-moment.result }

moment_is : (c : goal.After-hear) (notice : Notice) → Says c.args.h.now notice → c.max-moment.result ≡ max c.self.inside.moment (moment_of notice)
moment_is c notice says = c.max-moment.ensures ∙ ap (max c.self.inside.moment) (c.moment_of.ensures notice says)

stamp_is : (c : goal.After-hear) → c.stamp-stamp.result ≡ here_of c c.args.index
stamp_is c = c.stamp-stamp.ensures ∙ ap (λ (k : DirectoryKept). record { setup = k.setup; index = c.args.index; moment = c.max-moment.result }) (sym c.self.view_is)

taken : (c : goal.After-hear) (notice : Notice) → Says c.args.h.now notice → IsTaken (here_of c c.args.index) c.self.inside.moment c.ends_by-ends.result c.self.inside.people c.hear.new.self notice c.hear.new.post c.hear.new.verdict
taken c notice says =
    subst (λ (h : Here). IsTaken h c.self.inside.moment c.ends_by-ends.result c.self.inside.people c.hear.new.self notice c.hear.new.post c.hear.new.verdict) (stamp_is c)
    (c.hear.ensures.taken notice says (ap (λ (h : Here). h.moment) (stamp_is c) ∙ moment_is c notice says))

bounded : (c : goal.After-hear) → IsBounded (new_of c)
bounded c =
    let says = c.hear.ensures.says in
    let t = taken c says.0 says.1 in
    let places = c.self.inside.places in
    let here = here_of c c.args.index in
    let seated = seated_known places here c.ends_by-ends.result c.self.inside.people.known says.0 (seated_of (kept_of c.self.inside) c.self.invariant.bounded) in
    bounded_by (new_of c) (subst (λ (ks : List Known). IsSeated places ks) (sym t.known) seated) (omega (arith, c.hear.ensures.few.together))

pub invariant_of-self : goal.invariant_of-self
invariant_of-self c =
    let says = c.hear.ensures.says in
    record {
      bounded = bounded c;
      places = c.self.invariant.places;
      faults = λ goes. below_most (is_end says.0) c.faults_with-faults.result (sym (c.ends_by-ends.ensures says.0 says.1) ∙ goes);
    }

pub returns-clause-says : goal.returns-clause-says
returns-clause-says c = c.hear.ensures.says

pub returns-clause-heard : goal.returns-clause-heard
returns-clause-heard c = λ notice says.
    subst (λ (k : DirectoryKept). (entries : List Entry) → StandsFor k entries → c.args.index ≡ length entries → IsHeard k (new_of c) entries notice (record { verdict = c.hear.new.verdict; posts = c.hear.new.post })) c.self.view_is
    (λ entries stood at.
    let ends : c.ends_by-ends.result ≡ (is_end notice || leb 16 c.faults_with-faults.result) = c.ends_by-ends.ensures notice says in
    let first = subst (λ (e : Bool). IsTaken (here_of c c.args.index) c.self.inside.moment e c.self.inside.people c.hear.new.self notice c.hear.new.post c.hear.new.verdict) ends (taken c notice says) in
    let all = subst (λ (i : ℕ). IsTaken (here_of c i) c.self.inside.moment (is_end notice || leb 16 c.faults_with-faults.result) c.self.inside.people c.hear.new.self notice c.hear.new.post c.hear.new.verdict) at first in
    hear_stands (kept_of c.self.inside) (new_of c) entries notice stood (moment_is c notice says) (c.faults_with-faults.ensures notice says) refl c.hear.new.post c.hear.new.verdict all)

pub returns-clause-asked : goal.returns-clause-asked
returns-clause-asked c =
    let says = c.hear.ensures.says in
    asked_iff (here_of c c.args.index) c.self.inside.moment c.ends_by-ends.result c.self.inside.people c.hear.new.self says.0 c.hear.new.post c.hear.new.verdict (taken c says.0 says.1)

pub returns-clause-index : goal.returns-clause-index
returns-clause-index c =
    let says = c.hear.ensures.says in
    asked_index (here_of c c.args.index) c.self.inside.moment c.ends_by-ends.result c.self.inside.people c.hear.new.self says.0 c.hear.new.post c.hear.new.verdict (taken c says.0 says.1)

pub returns-clause-ended : goal.returns-clause-ended
returns-clause-ended c =
    let says = c.hear.ensures.says in
    let faults = c.faults_with-faults.ensures says.0 says.1 in
    let ends = c.ends_by-ends.ensures says.0 says.1 ∙ ap (λ f. is_end says.0 || leb 16 f) faults in
    ended_iff (here_of c c.args.index) c.self.inside.moment c.ends_by-ends.result c.self.inside.people c.hear.new.self says.0 c.hear.new.post c.hear.new.verdict (taken c says.0 says.1) c.self.inside.faults ends

pub returns-clause-together : goal.returns-clause-together
returns-clause-together c =
    let says = c.hear.ensures.says in
    still_together (here_of c c.args.index) c.self.inside.moment c.ends_by-ends.result c.self.inside.people c.hear.new.self says.0 c.hear.new.post c.hear.new.verdict (taken c says.0 says.1) c.hear.ensures.order
    ∙ ap (λ (k : DirectoryKept). length k.known + length k.departing) c.self.view_is

pub returns-clause-departing : goal.returns-clause-departing
returns-clause-departing c =
    let says = c.hear.ensures.says in
    subst (λ (k : DirectoryKept). HasGrown k.departing c.hear.new.self.departing) c.self.view_is
    (has_grown (here_of c c.args.index) c.self.inside.moment c.ends_by-ends.result c.self.inside.people c.hear.new.self says.0 c.hear.new.post c.hear.new.verdict (taken c says.0 says.1))

pub returns-clause-bounds : goal.returns-clause-bounds
returns-clause-bounds c = bounded c

pub returns-clause-over : goal.returns-clause-over
returns-clause-over c = λ is. c.ends_by-ends.ensures Notice.End (subst (λ (h : Heard). Says h Notice.End) (sym is) refl)
