-- Splits of what stands for nothing: where a term's numbers stand for what has a type there are none.
--
-- A number that is made further in stands for a location (`import_at`). Such a number is lost, and so are the sides of a split of it.
use Rattle.std.specs.Prelude.{◌≡◌, ◌≢◌, ℕ, ◌≤◌, Bool, true, false, List, [], ◌∷◌, ◌++◌, if◌then◌else◌}
use Rattle.std.proofs.Common.{refl, sym, ◌∙◌, ap, arith}
use Rattle.std.proofs.lemmas.Bool.{ne_eqb}
use Rattle.gos_types.specs.Types.{Type', Var}
use Rattle.gos_model.specs.Terms.{Term, Bound, Loc}
use Rattle.gos_model.specs.Typing.{Imports, Typed, array_type}
use Rattle.gos_model.proofs.NumberLemmas.{number_cases}
use Rattle.gos_check.specs.declared.linear.Split.{Split}
use Rattle.gos_check.specs.Nodes.{Numbered, Closed, Use, Under, One, Two, If, OfFun, OfNew, OfArray, OfFst, OfSnd, OfDeref, OfNot, OfApp, OfBoth, OfSeq, OfPar, OfWhile, OfAssign, OfBin, Meaning, meaning, shifted, argument_of, below, inside, inside_one}
use Rattle.gos_check.specs.Linearity.{times, split_in, sides, all_sides}
use Rattle.gos_check.proofs.TimesLemmas.{times_none, times_other, times-append, one_other, one_left, one_right}
use Rattle.gos_compile.proofs.KnownLemmas.{sides_times}

-- a location
abbrev pub is_loc : Term → Bool
is_loc (Loc l) = true
is_loc m = false

loc_shifted : (m : Term) → is_loc (shifted m) ≡ is_loc m
loc_shifted (Bound i) = refl
loc_shifted m = refl

typed_stands : (i : Imports) (g : List Type') (m : Term) (t : Type') → Typed i g m t → is_loc m ≡ false
typed_stands i g (Loc l) t typed = absurd typed
typed_stands i g m t typed = refl

-- what is used by itself is no location
abbrev pub UsesStand : Meaning → Numbered → Type 0
UsesStand env (Closed t ss c) = Unit {0}
UsesStand env (Use t ss n) = is_loc (env n) ≡ false
UsesStand env (Under t ss b n m) = UsesStand (below n (inside ss env)) m
UsesStand env (One t ss f m) = UsesStand (inside ss env) m
UsesStand env (Two t ss f m n) = UsesStand (inside ss env) m × UsesStand (inside ss env) n
UsesStand env (If t ss m n p) = UsesStand (inside ss env) m × UsesStand (inside ss env) n × UsesStand (inside ss env) p

-- so it is where the term has a type
pub uses_stand : (i : Imports) (g : List Type') (env : Meaning) (m : Numbered) (t : Type') → Typed i g (meaning env m) t → UsesStand env m
uses_stand i g env (Closed t ss c) u typed = tt
uses_stand i g env (Use t ss n) u typed = typed_stands i g (env n) u typed
uses_stand i g env (Under t ss OfFun n m) u typed = uses_stand i (argument_of t ∷ g) (below n (inside ss env)) m typed.0 typed.2
uses_stand i g env (Under t ss (OfNew w) n m) u typed = uses_stand i (Var w ∷ g) (below n (inside ss env)) m u typed.2
uses_stand i g env (Under t ss (OfArray c w) n m) u typed = uses_stand i (array_type c w ∷ g) (below n (inside ss env)) m u typed.3
uses_stand i g env (One t ss OfFst m) u typed = uses_stand i g (inside ss env) m _ typed.1
uses_stand i g env (One t ss OfSnd m) u typed = uses_stand i g (inside ss env) m _ typed.1
uses_stand i g env (One t ss OfDeref m) u typed = uses_stand i g (inside ss env) m _ typed.2
uses_stand i g env (One t ss OfNot m) u typed = uses_stand i g (inside ss env) m _ typed.2
uses_stand i g env (Two t ss OfApp m n) u typed = (uses_stand i g (inside ss env) m _ typed.1, uses_stand i g (inside ss env) n _ typed.2)
uses_stand i g env (Two t ss OfBoth m n) u typed = (uses_stand i g (inside ss env) m _ typed.3, uses_stand i g (inside ss env) n _ typed.4)
uses_stand i g env (Two t ss OfSeq m n) u typed = (uses_stand i g (inside ss env) m _ typed.1, uses_stand i g (inside ss env) n _ typed.2)
uses_stand i g env (Two t ss OfPar m n) u typed = (uses_stand i g (inside ss env) m _ typed.1, uses_stand i g (inside ss env) n _ typed.2)
uses_stand i g env (Two t ss OfWhile m n) u typed = (uses_stand i g (inside ss env) m _ typed.1, uses_stand i g (inside ss env) n _ typed.2)
uses_stand i g env (Two t ss OfAssign m n) u typed = (uses_stand i g (inside ss env) m _ typed.2, uses_stand i g (inside ss env) n _ typed.3)
uses_stand i g env (Two t ss (OfBin op) m n) u typed = (uses_stand i g (inside ss env) m _ typed.2, uses_stand i g (inside ss env) n _ typed.3)
uses_stand i g env (If t ss m n p) u typed = (
  uses_stand i g (inside ss env) m _ typed.1,
  uses_stand i g (inside ss env) n _ typed.2,
  uses_stand i g (inside ss env) p _ typed.3,
)

-- the splits of lost numbers
abbrev pub kept : Bool → Split → List Split → List Split
kept true s ss = s ∷ ss
kept false s ss = ss

abbrev pub lost_in : Meaning → List Split → List Split
lost_in env [] = []
lost_in env (s ∷ ss) = kept (is_loc (env s.of)) s (lost_in (inside_one s env) ss)

abbrev pub lost : Meaning → Numbered → List Split
lost env (Closed t ss c) = lost_in env ss
lost env (Use t ss n) = lost_in env ss
lost env (Under t ss b n m) = lost_in env ss ++ lost (below n (inside ss env)) m
lost env (One t ss f m) = lost_in env ss ++ lost (inside ss env) m
lost env (Two t ss f m n) = lost_in env ss ++ (lost (inside ss env) m ++ lost (inside ss env) n)
lost env (If t ss m n p) = lost_in env ss ++ (lost (inside ss env) m ++ (lost (inside ss env) n ++ lost (inside ss env) p))

-- they are some of the splits
pub row_fewer : (k : ℕ) (env : Meaning) (ss : List Split) → times k (sides (lost_in env ss)) ≤ times k (sides ss)
row_fewer k env [] = omega arith
row_fewer k env (s ∷ ss) = by_test (is_loc (env s.of)) (row_fewer k (inside_one s env) ss)
  where
    by_test : (b : Bool) → times k (sides (lost_in (inside_one s env) ss)) ≤ times k (sides ss)
        → times k (sides (kept b s (lost_in (inside_one s env) ss))) ≤ times k (sides (s ∷ ss))
    by_test true rest = omega (arith, rest)
    by_test false rest = omega (arith, rest)

pub fewer : (k : ℕ) (env : Meaning) (m : Numbered) → times k (sides (lost env m)) ≤ times k (all_sides m)
fewer k env (Closed t ss c) = row_fewer k env ss
fewer k env (Use t ss n) = row_fewer k env ss
fewer k env (Under t ss b n m) =
    let row = row_fewer k env ss in
    let part = fewer k (below n (inside ss env)) m in
    let lost_two = sides_times k (lost_in env ss) (lost (below n (inside ss env)) m) in
    let two = times-append k (sides ss) (all_sides m) in
    omega (arith, row, part, lost_two, two)
fewer k env (One t ss f m) =
    let row = row_fewer k env ss in
    let part = fewer k (inside ss env) m in
    let lost_two = sides_times k (lost_in env ss) (lost (inside ss env) m) in
    let two = times-append k (sides ss) (all_sides m) in
    omega (arith, row, part, lost_two, two)
fewer k env (Two t ss f m n) =
    let row = row_fewer k env ss in
    let part = fewer k (inside ss env) m in
    let other = fewer k (inside ss env) n in
    let lost_two = sides_times k (lost_in env ss) (lost (inside ss env) m ++ lost (inside ss env) n) in
    let lost_more = sides_times k (lost (inside ss env) m) (lost (inside ss env) n) in
    let two = times-append k (sides ss) (all_sides m ++ all_sides n) in
    let more = times-append k (all_sides m) (all_sides n) in
    omega (arith, row, part, other, lost_two, lost_more, two, more)
fewer k env (If t ss m n p) =
    let row = row_fewer k env ss in
    let part = fewer k (inside ss env) m in
    let other = fewer k (inside ss env) n in
    let third = fewer k (inside ss env) p in
    let lost_two = sides_times k (lost_in env ss) (lost (inside ss env) m ++ (lost (inside ss env) n ++ lost (inside ss env) p)) in
    let lost_more = sides_times k (lost (inside ss env) m) (lost (inside ss env) n ++ lost (inside ss env) p) in
    let lost_last = sides_times k (lost (inside ss env) n) (lost (inside ss env) p) in
    let two = times-append k (sides ss) (all_sides m ++ (all_sides n ++ all_sides p)) in
    let more = times-append k (all_sides m) (all_sides n ++ all_sides p) in
    let last = times-append k (all_sides n) (all_sides p) in
    omega (arith, row, part, other, third, lost_two, lost_more, lost_last, two, more, last)

-- A lost number that only lost splits make is lost everywhere, and split by lost splits alone.
abbrev pub RowUses : ℕ → Meaning → List Split → Type 0
RowUses k env ss = (times k (split_in ss) ≡ times k (split_in (lost_in env ss))) × (is_loc (inside ss env k) ≡ true)

pub row_uses : (k : ℕ) (env : Meaning) (ss : List Split) → is_loc (env k) ≡ true → times k (sides ss) ≡ times k (sides (lost_in env ss)) → RowUses k env ss
row_uses k env [] loc same = (refl, loc)
row_uses k env (s ∷ ss) loc same =
    by_test (is_loc (env s.of)) refl same (row_fewer k (inside_one s env) ss) (λ l e. row_uses k (inside_one s env) ss l e)
  where
    still : is_loc (env s.of) ≡ true → is_loc (inside_one s env k) ≡ true
    still of = number_cases k s.left
        (λ e t. ap (λ (a : ℕ). is_loc (inside_one s env a)) e ∙ (ap is_loc (one_left s env) ∙ of))
        (λ e f. number_cases k s.right
        (λ d t. ap (λ (a : ℕ). is_loc (inside_one s env a)) d ∙ (ap is_loc (one_right s env) ∙ of))
        (λ d g. ap is_loc (one_other s env k e d) ∙ loc))

    by_test : (b : Bool) → is_loc (env s.of) ≡ b → times k (sides (s ∷ ss)) ≡ times k (sides (kept b s (lost_in (inside_one s env) ss))) → times k (sides (lost_in (inside_one s env) ss)) ≤ times k (sides ss)
        → (is_loc (inside_one s env k) ≡ true → times k (sides ss) ≡ times k (sides (lost_in (inside_one s env) ss)) → RowUses k (inside_one s env) ss)
        → (times k (split_in (s ∷ ss)) ≡ times k (split_in (kept b s (lost_in (inside_one s env) ss)))) × (is_loc (inside ss (inside_one s env) k) ≡ true)
    by_test true of counted few next =
        let (uses, lost) = next (still of) (omega (arith, counted)) in (omega (arith, uses), lost)
    by_test false of counted few next =
        let one = times-append k (s.left ∷ s.right ∷ []) (sides ss) in
        let none : times k (s.left ∷ s.right ∷ []) ≡ 0 = omega (arith, one, counted, few) in
        let (left, more) = times_none k s.left (s.right ∷ []) none in
        let (right, end) = times_none k s.right [] more in
        let kept_loc : is_loc (inside_one s env k) ≡ true = ap is_loc (one_other s env k left right) ∙ loc in
        let (uses, lost) = next kept_loc (omega (arith, one, counted, few)) in
        let apart : s.of ≢ k = (λ e. let both : true ≡ false = sym loc ∙ (ap (λ (a : ℕ). is_loc (env a)) (sym e) ∙ of) in cc both) in
        (times_other k s.of (split_in ss) apart ∙ uses, lost)

pub below_loc : (n k : ℕ) (env : Meaning) → k ≢ n → is_loc (env k) ≡ true → is_loc (below n env k) ≡ true
below_loc n k env apart loc =
    let f = ne_eqb k n apart in
    (λ i. is_loc (if f i then Bound 0 else shifted (env k))) ∙ (loc_shifted (env k) ∙ loc)
