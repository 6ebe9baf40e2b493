-- A typed term that stands for a typed program uses each side of a split in the split's own node.
use Rattle.std.specs.Prelude.{◌≡◌, ◌≢◌, ℕ, zero, suc, ◌+◌, ◌<◌, ◌≤◌, true, false, [], ◌∷◌, ◌++◌, length}
use Rattle.std.proofs.Common.{refl, sym, ◌∙◌, ap, subst, arith}
use Rattle.gos_model.specs.Typing.{Imports}
use Rattle.gos_check.specs.Nodes.{Numbered, Closed, Use, Under, One, Two, If, Meaning, below, inside}
use Rattle.gos_check.specs.Linearity.{times, split_in, sides, used, all_sides, made, import_at}
use Rattle.gos_check.proofs.TimesLemmas.{times_same, times_other, times-append}
use Rattle.gos_compile.proofs.LoadLemmas.{sides_made}
use Rattle.gos_compile.proofs.KnownLemmas.{split_times, sides_times}
use Rattle.gos_terms.proofs.leaves.CountLemmas.{behind, no_splits}
use Rattle.gos_terms.proofs.leaves.LostLemmas.{is_loc, UsesStand, lost_in, lost, row_fewer, fewer, row_uses, below_loc}

-- a number that is used by itself isn't lost
not_used : (k n : ℕ) (env : Meaning) → is_loc (env n) ≡ false → is_loc (env k) ≡ true → n ≢ k
not_used k n env stands loc e = let both : true ≡ false = sym loc ∙ (ap (λ (a : ℕ). is_loc (env a)) (sym e) ∙ stands) in cc both

few : (k : ℕ) (env : Meaning) (m : Numbered) → times k (sides (lost env m)) ≤ times k (made m)
few k env m = let one = fewer k env m in let two = sides_made k m in omega (arith, one, two)

-- A lost number that only lost splits make is used by lost splits alone.
pub lost_uses : (k : ℕ) (env : Meaning) (m : Numbered) → UsesStand env m → is_loc (env k) ≡ true → times k (made m) ≡ times k (sides (lost env m))
    → times k (used m) ≡ times k (split_in (lost env m))
lost_uses k env (Closed t ss c) stands loc same = (row_uses k env ss loc same).0
lost_uses k env (Use t ss n) stands loc same =
    let row = (row_uses k env ss loc same).0 in
    let parted = times-append k (split_in ss) (n ∷ []) in
    let other = times_other k n [] (not_used k n env stands loc) in
    omega (arith, row, parted, other)
lost_uses k env (Under t ss b n m) stands loc same =
    let parted = times-append k (sides ss) (n ∷ made m) in
    let lost_two = sides_times k (lost_in env ss) (lost (below n (inside ss env)) m) in
    let first = row_fewer k env ss in
    let second = few k (below n (inside ss env)) m in
    let more = behind k n (made m) in
    let own : times k (n ∷ made m) ≡ times k (made m) = omega (arith, same, parted, lost_two, first, second, more) in
    let (row, still) = row_uses k env ss loc (omega (arith, same, parted, lost_two, first, second, more)) in
    let part = lost_uses k (below n (inside ss env)) m stands (below_loc n k (inside ss env) (other own) still)
    (omega (arith, same, parted, lost_two, first, second, more)) in
    let uses = times-append k (split_in ss) (used m) in
    let splits = split_times k (lost_in env ss) (lost (below n (inside ss env)) m) in
    omega (arith, row, part, uses, splits)
  where
    other : times k (n ∷ made m) ≡ times k (made m) → k ≢ n
    other own e = let one = times_same n (made m) in
        let at : times n (n ∷ made m) ≡ times n (made m) = subst (λ (a : ℕ). times a (n ∷ made m) ≡ times a (made m)) e own in omega (arith, one, at)
lost_uses k env (One t ss f m) stands loc same =
    let parted = times-append k (sides ss) (made m) in
    let lost_two = sides_times k (lost_in env ss) (lost (inside ss env) m) in
    let first = row_fewer k env ss in
    let second = few k (inside ss env) m in
    let (row, still) = row_uses k env ss loc (omega (arith, same, parted, lost_two, first, second)) in
    let part = lost_uses k (inside ss env) m stands still (omega (arith, same, parted, lost_two, first, second)) in
    let uses = times-append k (split_in ss) (used m) in
    let splits = split_times k (lost_in env ss) (lost (inside ss env) m) in
    omega (arith, row, part, uses, splits)
lost_uses k env (Two t ss f m n) stands loc same =
    let parted = times-append k (sides ss) (made m ++ made n) in
    let parted_two = times-append k (made m) (made n) in
    let lost_two = sides_times k (lost_in env ss) (lost (inside ss env) m ++ lost (inside ss env) n) in
    let lost_more = sides_times k (lost (inside ss env) m) (lost (inside ss env) n) in
    let first = row_fewer k env ss in
    let second = few k (inside ss env) m in
    let third = few k (inside ss env) n in
    let (row, still) = row_uses k env ss loc (omega (arith, same, parted, parted_two, lost_two, lost_more, first, second, third)) in
    let part = lost_uses k (inside ss env) m stands.0 still (omega (arith, same, parted, parted_two, lost_two, lost_more, first, second, third)) in
    let other = lost_uses k (inside ss env) n stands.1 still (omega (arith, same, parted, parted_two, lost_two, lost_more, first, second, third)) in
    let uses = times-append k (split_in ss) (used m ++ used n) in
    let uses_two = times-append k (used m) (used n) in
    let splits = split_times k (lost_in env ss) (lost (inside ss env) m ++ lost (inside ss env) n) in
    let splits_two = split_times k (lost (inside ss env) m) (lost (inside ss env) n) in
    omega (arith, row, part, other, uses, uses_two, splits, splits_two)
lost_uses k env (If t ss m n p) stands loc same =
    let parted = times-append k (sides ss) (made m ++ (made n ++ made p)) in
    let parted_two = times-append k (made m) (made n ++ made p) in
    let parted_three = times-append k (made n) (made p) in
    let lost_two = sides_times k (lost_in env ss) (lost (inside ss env) m ++ (lost (inside ss env) n ++ lost (inside ss env) p)) in
    let lost_more = sides_times k (lost (inside ss env) m) (lost (inside ss env) n ++ lost (inside ss env) p) in
    let lost_last = sides_times k (lost (inside ss env) n) (lost (inside ss env) p) in
    let first = row_fewer k env ss in
    let second = few k (inside ss env) m in
    let third = few k (inside ss env) n in
    let fourth = few k (inside ss env) p in
    let made_all : times k (sides ss) + (times k (made m) + (times k (made n) + times k (made p)))
    ≡ times k (sides (lost_in env ss)) + (times k (sides (lost (inside ss env) m)) + (times k (sides (lost (inside ss env) n)) + times k (sides (lost (inside ss env) p)))) =
    omega (arith, same, parted, parted_two, parted_three, lost_two, lost_more, lost_last) in
    let (row, still) = row_uses k env ss loc (omega (arith, made_all, first, second, third, fourth)) in
    let part = lost_uses k (inside ss env) m stands.0 still (omega (arith, made_all, first, second, third, fourth)) in
    let other = lost_uses k (inside ss env) n stands.1 still (omega (arith, made_all, first, second, third, fourth)) in
    let last = lost_uses k (inside ss env) p stands.2 still (omega (arith, made_all, first, second, third, fourth)) in
    let uses = times-append k (split_in ss) (used m ++ (used n ++ used p)) in
    let uses_two = times-append k (used m) (used n ++ used p) in
    let uses_three = times-append k (used n) (used p) in
    let splits = split_times k (lost_in env ss) (lost (inside ss env) m ++ (lost (inside ss env) n ++ lost (inside ss env) p)) in
    let splits_two = split_times k (lost (inside ss env) m) (lost (inside ss env) n ++ lost (inside ss env) p) in
    let splits_three = split_times k (lost (inside ss env) n) (lost (inside ss env) p) in
    omega (arith, row, part, other, last, uses, uses_two, uses_three, splits, splits_two, splits_three)

-- a number that is made in the term, and no import's, stands for a location at first
pub loc_first : (is : Imports) (k : ℕ) → length is ≤ k → is_loc (import_at is k) ≡ true
loc_first [] k low = refl
loc_first (i ∷ is) zero low = absurd (omega (arith, low))
loc_first (i ∷ is) (suc k) low = loc_first is k (omega (arith, low))

-- So no split is one of a lost number: else the sides of all those are split by so many splits, half as many as they are.
pub none_lost : (is : Imports) (m : Numbered) → UsesStand (import_at is) m → ((k : ℕ) → times k (made m) ≤ 1) → ((k : ℕ) → 0 < times k (made m) → length is ≤ k)
    → ((k : ℕ) → 0 < times k (all_sides m) → times k (used m) ≡ 1) → lost (import_at is) m ≡ []
none_lost is m stands once no_import sides_used = no_splits (lost (import_at is) m) few_sides again
  where
    few_sides : (k : ℕ) → times k (sides (lost (import_at is) m)) ≤ 1
    few_sides k = let low = few k (import_at is) m in let one = once k in omega (arith, low, one)

    again : (k : ℕ) → 0 < times k (sides (lost (import_at is) m)) → 0 < times k (split_in (lost (import_at is) m))
    again k small =
        let low = fewer k (import_at is) m in
        let more = sides_made k m in
        let one = once k in
        let loc = loc_first is k (no_import k (omega (arith, small, low, more))) in
        let uses = lost_uses k (import_at is) m stands loc (omega (arith, small, low, more, one)) in
        let again = sides_used k (omega (arith, small, low)) in
        omega (arith, uses, again)
