-- What is kept of the numbers of a checked module: each that is used or split stands for something there.
use Rattle.std.specs.Prelude.{◌≡◌, ◌≢◌, ℕ, zero, suc, ◌+◌, ◌<◌, ◌≤◌, Bool, true, false, List, [], ◌∷◌, ◌++◌, length, if◌then◌else◌}
use Rattle.std.proofs.Common.{refl, sym, ◌∙◌, ap, subst, arith}
use Rattle.gos_types.specs.Types.{type_of}
use Rattle.gos_model.specs.Terms as terms
use Rattle.gos_model.specs.Terms.{Term}
use Rattle.gos_model.specs.Typing.{Imports}
use Rattle.gos_model.proofs.NumberLemmas.{number_cases}
use Rattle.gos_check.specs.declared.linear.Split.{Split}
use Rattle.gos_check.specs.Nodes.{Numbered, Closed, Use, Under, One, Two, If, Meaning, below, shifted, inside, inside_one, node_seen}
use Rattle.gos_check.specs.Linearity.{times, made, import_at}
use Rattle.gos_check.specs.Checked.{program_in}
use Rattle.gos_check.proofs.TimesLemmas.{times_same, times_other, times-append, one_other, listed_times}
use Rattle.gos_compile.specs.Typed.{CheckedIsTyped}
use Rattle.gos_terms.proofs.leaves.CountLemmas.{behind}
use Rattle.gos_terms.proofs.leaves.LostLemmas.{is_loc, UsesStand, uses_stand, lost_in, lost, kept}
use Rattle.gos_terms.proofs.leaves.StandLemmas.{none_lost}
use Rattle.gos_terms.proofs.leaves.WithinLemmas.{standing_is_split_at_forks, two_none}
use Rattle.gos_terms.specs.wired.Modules.{numbers_from}
use Rattle.gos_terms.specs.stages.Inside.{numbers_inside, AreSplit}
use Rattle.gos_terms.specs.numbers.Kept.{InScope, CheckedIsKept}

-- what stands for no location is there
abbrev AllThere : Meaning → List ℕ → Type 0
AllThere env ns = (k : ℕ) → is_loc (env k) ≡ false → 0 < times k ns

split_there : (s : Split) (env : Meaning) (ns : List ℕ) → AllThere env ns → AllThere (inside_one s env) (s.left ∷ s.right ∷ ns)
split_there s env ns there k bound = number_cases k s.left
    (λ e t. let one = times_same s.left (s.right ∷ ns) in subst (λ (a : ℕ). 0 < times a (s.left ∷ s.right ∷ ns)) (sym e) (omega (arith, one)))
    (λ l f. number_cases k s.right
    (λ e t. let one = times_same s.right ns in let more = behind s.right s.left (s.right ∷ ns) in
    subst (λ (a : ℕ). 0 < times a (s.left ∷ s.right ∷ ns)) (sym e) (omega (arith, one, more)))
    (λ r g. let here = there k (ap is_loc (sym (one_other s env k l r)) ∙ bound) in
    let one = behind k s.left (s.right ∷ ns) in let two = behind k s.right ns in omega (arith, here, one, two)))

inside_there : (ss : List Split) (env : Meaning) (ns : List ℕ) → AllThere env ns → AllThere (inside ss env) (numbers_inside ss ns)
inside_there [] env ns there = there
inside_there (s ∷ ss) env ns there = inside_there ss (inside_one s env) (s.left ∷ s.right ∷ ns) (split_there s env ns there)

shifted_stands : (m : Term) → is_loc (shifted m) ≡ false → is_loc m ≡ false
shifted_stands (terms.Bound i) h = refl
shifted_stands m h = h

below_there : (n : ℕ) (env : Meaning) (ns : List ℕ) → AllThere env ns → AllThere (below n env) (ns ++ n ∷ [])
below_there n env ns there k bound =
    let two = times-append k ns (n ∷ []) in
    number_cases k n
    (λ e t. let one = times_same n [] in let here : times k (n ∷ []) ≡ 1 = subst (λ (a : ℕ). times a (n ∷ []) ≡ 1) (sym e) (omega (arith, one)) in omega (arith, two, here))
    (λ e f. let here = there k (shifted_stands (env k) (subst (λ (b : Bool). is_loc (if b then terms.Bound 0 else shifted (env k)) ≡ false) f bound)) in
    omega (arith, two, here))

-- where no split is lost
kept_none : (b : Bool) (s : Split) (ss : List Split) → kept b s ss ≡ [] → (b ≡ false) × (ss ≡ [])
kept_none true s ss e = absurd (cc e)
kept_none false s ss e = (refl, e)

pub first_kept : (env : Meaning) (s : Split) (ss : List Split) → lost_in env (s ∷ ss) ≡ [] → (is_loc (env s.of) ≡ false) × (lost_in (inside_one s env) ss ≡ [])
first_kept env s ss e = kept_none (is_loc (env s.of)) s (lost_in (inside_one s env) ss) e

splits_there : (ss : List Split) (env : Meaning) (ns : List ℕ) → AllThere env ns → lost_in env ss ≡ [] → AreSplit ss ns
splits_there [] env ns there none = tt
splits_there (s ∷ ss) env ns there none =
    let (stands, rest) = first_kept env s ss none in (
      listed_times s.of ns (there s.of stands),
      splits_there ss (inside_one s env) (s.left ∷ s.right ∷ ns) (split_there s env ns there) rest,
    )

in_scope : (m : Numbered) (env : Meaning) (ns : List ℕ) → AllThere env ns → UsesStand env m → lost env m ≡ [] → InScope ns m
in_scope (Closed t ss c) env ns there uses none = splits_there ss env ns there none
in_scope (Use t ss n) env ns there uses none = listed_times n ns (there n uses)
in_scope (Under t ss b n m) env ns there uses none =
    let (row, rest) = two_none (lost_in env ss) (lost (below n (inside ss env)) m) none in (
      splits_there ss env ns there row,
      in_scope m (below n (inside ss env)) (numbers_inside ss ns ++ n ∷ []) (below_there n (inside ss env) (numbers_inside ss ns) (inside_there ss env ns there)) uses rest,
    )
in_scope (One t ss f m) env ns there uses none =
    let (row, rest) = two_none (lost_in env ss) (lost (inside ss env) m) none in (
      splits_there ss env ns there row,
      in_scope m (inside ss env) (numbers_inside ss ns) (inside_there ss env ns there) uses rest,
    )
in_scope (Two t ss f m n) env ns there uses none =
    let (row, both) = two_none (lost_in env ss) (lost (inside ss env) m ++ lost (inside ss env) n) none in
    let (first, second) = two_none (lost (inside ss env) m) (lost (inside ss env) n) both in (
      splits_there ss env ns there row,
      in_scope m (inside ss env) (numbers_inside ss ns) (inside_there ss env ns there) uses.0 first,
      in_scope n (inside ss env) (numbers_inside ss ns) (inside_there ss env ns there) uses.1 second,
    )
in_scope (If t ss m n p) env ns there uses none =
    let (row, three) = two_none (lost_in env ss) (lost (inside ss env) m ++ (lost (inside ss env) n ++ lost (inside ss env) p)) none in
    let (first, both) = two_none (lost (inside ss env) m) (lost (inside ss env) n ++ lost (inside ss env) p) three in
    let (second, third) = two_none (lost (inside ss env) n) (lost (inside ss env) p) both in (
      splits_there ss env ns there row,
      in_scope m (inside ss env) (numbers_inside ss ns) (inside_there ss env ns there) uses.0 first,
      in_scope n (inside ss env) (numbers_inside ss ns) (inside_there ss env ns there) uses.1 second,
      in_scope p (inside ss env) (numbers_inside ss ns) (inside_there ss env ns there) uses.2 third,
    )

-- the numbers of the imports
import_low : (is : Imports) (k : ℕ) → is_loc (import_at is k) ≡ false → k < length is
import_low [] k h = absurd (cc h)
import_low (i ∷ is) zero h = omega arith
import_low (i ∷ is) (suc k) h = let less = import_low is k h in omega (arith, less)

above : (n k : ℕ) → n ≤ k → n ≢ k → suc n ≤ k
above n k low other = grind arith

number_there : (m n k : ℕ) → n ≤ k → k < n + m → 0 < times k (numbers_from n m)
number_there zero n k low high = absurd (omega (arith, low, high))
number_there (suc m) n k low high = number_cases n k
    (λ e t. let one = times_same n (numbers_from (suc n) m) in subst (λ (a : ℕ). 0 < times a (n ∷ numbers_from (suc n) m)) e (omega (arith, one)))
    (λ e f. let here = number_there m (suc n) k (above n k low e) (omega (arith, high)) in
    let more = behind k n (numbers_from (suc n) m) in omega (arith, here, more))

number_low : (m n k : ℕ) → k < n → times k (numbers_from n m) ≡ 0
number_low zero n k low = refl
number_low (suc m) n k low = times_other k n (numbers_from (suc n) m) (λ e. omega (arith, e, low)) ∙ number_low m (suc n) k (omega (arith, low))

number_high : (m n k : ℕ) → n + m ≤ k → times k (numbers_from n m) ≡ 0
number_high zero n k high = refl
number_high (suc m) n k high = times_other k n (numbers_from (suc n) m) (λ e. omega (arith, e, high)) ∙ number_high m (suc n) k (omega (arith, high))

number_once : (m n k : ℕ) → times k (numbers_from n m) ≤ 1
number_once zero n k = omega arith
number_once (suc m) n k = number_cases n k
    (λ e t. let none = number_low m (suc n) k (omega (arith, e)) in
    let one : times k (n ∷ numbers_from (suc n) m) ≡ 1 + times k (numbers_from (suc n) m) =
    subst (λ (a : ℕ). times k (a ∷ numbers_from (suc n) m) ≡ 1 + times k (numbers_from (suc n) m)) (sym e) (times_same k (numbers_from (suc n) m)) in
    omega (arith, none, one))
    (λ e f. let rest = number_once m (suc n) k in let same = times_other k n (numbers_from (suc n) m) e in omega (arith, rest, same))

pub checked_is_kept : CheckedIsTyped → CheckedIsKept
checked_is_kept law l c =
    let uses = uses_stand (program_in l).imports [] (import_at (program_in l).imports) (node_seen l.term) (type_of l.result) c.typed in
    let lost = none_lost (program_in l).imports (node_seen l.term) uses c.term.made_once c.term.no_import c.term.sides_used in
    let (within, forks) = standing_is_split_at_forks (program_in l) (node_seen l.term) (type_of l.result) c.term c.typed in
    let scope =
    in_scope (node_seen l.term) (import_at (program_in l).imports) (numbers_from 0 (length (program_in l).imports))
    (λ k bound. (let low = import_low (program_in l).imports k bound in number_there (length (program_in l).imports) 0 k (omega arith) (omega (arith, low))))
    uses lost in
    record {
      once = λ k. once k (times k (made (node_seen l.term))) refl;
      used_once = c.term.used_once;
      scope = scope;
      within = within;
      apart = c.term.apart;
      forks = forks;
      typed = (law l c).0;
    }
  where
    once : (k a : ℕ) → times k (made (node_seen l.term)) ≡ a → times k (made (node_seen l.term)) + times k (numbers_from 0 (length (program_in l).imports)) ≤ 1
    once k zero e = let one = number_once (length (program_in l).imports) 0 k in omega (arith, e, one)
    once k (suc a) e =
        let high = c.term.no_import k (omega (arith, e)) in
        let none = number_high (length (program_in l).imports) 0 k (omega (arith, high)) in
        let one = c.term.made_once k in
        omega (arith, one, none)
