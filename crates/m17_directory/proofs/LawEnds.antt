-- Where a link has ended nobody is known.
use Rattle.std.proofs.Common.{◌≡◌, ℕ, suc, Bool, true, false, ◌&&◌, List, [], ◌∷◌, ◌++◌, length, unwrap_or, filter_map, Option, None, refl, ap, sym, ◌∙◌}
use Rattle.std.specs.List.{cons_option}
use Rattle.std.proofs.lemmas.Bool.{false≢true, or_right}
use Rattle.m17_lists.proofs.Places.{one_more_stands_at_the_end}
use Rattle.m17_values.specs.declared.peer.Peer.{Peer}
use Rattle.m17_directory.specs.declared.verdict.LinkVerdict.{LinkVerdict}
use Rattle.m17_directory.specs.declared.verdict.LinkVerdict.TheVariants as verdict
use Rattle.m17_directory.specs.Entries.{Entry, Setup, notice_at, is_from, ends_at}
use Rattle.m17_directory.specs.Known.{row_at, known_at}
use Rattle.m17_directory.specs.Routed.{unclaimed_at, is_asks, asks_at, asked_before, past_at}
use Rattle.m17_directory.specs.Laws.{is_ended, NobodyIsKnownBehindTheEnd}
use Rattle.m17_directory.proofs.Same.{past_of, length_asked}
use Rattle.m17_directory.proofs.Later.{goes}
use Rattle.m17_directory.proofs.LawPosts.{ended_where}

ended_asks : (v : LinkVerdict) → is_ended v ≡ true → is_asks v ≡ false
ended_asks verdict.Asks e = absurd (false≢true e)
ended_asks v e = refl

none_found : {A B : Type 0} (f : A → Option B) (xs : List A) → ((x : A) → f x ≡ None) → filter_map f xs ≡ []
none_found f [] h = refl
none_found f (x ∷ xs) h = ap (λ o. cons_option o (filter_map f xs)) (h x) ∙ none_found f xs h

row_gone : (setup : Setup) (entries : List Entry) (l : List Bool) (v : Bool) → ends_at entries (length l) ≡ true → v ≡ false → (x : Peer) → row_at (past_of setup entries (l ++ v ∷ [])) x ≡ None
row_gone setup entries l v ends asks x =
    goes setup entries l v x
    (or_right _ (ends_at entries (length l)) ends)
    (ap (λ o. unwrap_or o false && is_from x (notice_at entries (length l))) (one_more_stands_at_the_end l v) ∙ ap (λ b. b && is_from x (notice_at entries (length l))) asks)

known_gone : (setup : Setup) (entries : List Entry) (l : List Bool) (v : Bool) → ends_at entries (length l) ≡ true → v ≡ false → known_at (past_of setup entries (l ++ v ∷ [])) ≡ []
unfolding known_at
known_gone setup entries l v ends asks = none_found (row_at (past_of setup entries (l ++ v ∷ []))) _ (row_gone setup entries l v ends asks)

known_after_end : (setup : Setup) (entries : List Entry) (n : ℕ) → ends_at entries n ≡ true → known_at (past_at setup entries (suc n)) ≡ []
unfolding asked_before
known_after_end setup entries n ends =
    let l : List Bool = asked_before setup entries n in
    let v : Bool = asks_at (past_at setup entries n) in
    let there : ends_at entries (length l) ≡ true = ap (ends_at entries) (length_asked setup entries n) ∙ ends in
    known_gone setup entries l v there (ended_asks (unclaimed_at (past_at setup entries n)).verdict (ended_where setup entries n ∙ ends))

pub nobody_known : NobodyIsKnownBehindTheEnd
nobody_known setup entries once =
    ap (λ m. known_at (past_at setup entries m)) (sym once.is_last) ∙ known_after_end setup entries once.last once.ends
