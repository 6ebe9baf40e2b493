-- Where no number is lost, each side of a split is used in the split's own node.
use Rattle.std.specs.Prelude.{◌≡◌, ◌≢◌, ℕ, zero, suc, ◌+◌, ◌<◌, ◌≤◌, true, false, List, [], ◌∷◌, ◌++◌}
use Rattle.std.proofs.Common.{refl, sym, ◌∙◌, ap, subst, arith}
use Rattle.gos_check.specs.declared.linear.Split.{Split}
use Rattle.gos_types.specs.Types.{Type'}
use Rattle.gos_model.specs.Terms.{Term}
use Rattle.gos_model.specs.Typing.{Typed}
use Rattle.gos_check.specs.Nodes.{Binding, OneForm, Numbered, Closed, Use, Under, One, Two, If, Meaning, below, inside}
use Rattle.gos_check.specs.Linearity.{times, split_in, sides, used, all_sides, made, import_at}
use Rattle.gos_check.proofs.TimesLemmas.{times_same, times-append}
use Rattle.gos_compile.proofs.LoadLemmas.{sides_made}
use Rattle.gos_terms.specs.leaves.Splits.{SidesUsedWithin, StandingIsSplitAtForks}
use Rattle.gos_terms.proofs.leaves.CountLemmas.{behind}
use Rattle.gos_terms.proofs.leaves.SplitLemmas.{leaves_have_no_splits}
use Rattle.gos_terms.proofs.leaves.LostLemmas.{is_loc, UsesStand, uses_stand, lost_in, lost, row_uses, below_loc}
use Rattle.gos_terms.proofs.leaves.StandLemmas.{lost_uses, loc_first, none_lost}

pub two_none : (ss ts : List Split) → ss ++ ts ≡ [] → (ss ≡ []) × (ts ≡ [])
two_none [] ts e = (refl, e)
two_none (s ∷ ss) ts e = absurd (cc e)

-- a number that is lost and not made isn't used
row_unused : (k : ℕ) (env : Meaning) (ss : List Split) → lost_in env ss ≡ [] → is_loc (env k) ≡ true → times k (sides ss) ≡ 0
    → (times k (split_in ss) ≡ 0) × (is_loc (inside ss env k) ≡ true)
row_unused k env ss none loc free =
    let (row, still) = row_uses k env ss loc (free ∙ ap (λ (ts : List Split). times k (sides ts)) (sym none)) in
    (row ∙ ap (λ (ts : List Split). times k (split_in ts)) none, still)

unused : (k : ℕ) (env : Meaning) (m : Numbered) → UsesStand env m → lost env m ≡ [] → is_loc (env k) ≡ true → times k (made m) ≡ 0 → times k (used m) ≡ 0
unused k env m stands none loc free =
    lost_uses k env m stands loc (free ∙ ap (λ (ts : List Split). times k (sides ts)) (sym none)) ∙ ap (λ (ts : List Split). times k (split_in ts)) none

-- what a node is known by where its numbers have meanings
record Known (env : Meaning) (m : Numbered) : Type 0 where
  stands : UsesStand env m
  none : lost env m ≡ []
  once : (k : ℕ) → times k (made m) ≤ 1
  loc : (k : ℕ) → 0 < times k (made m) → is_loc (env k) ≡ true
  sides_used : (k : ℕ) → 0 < times k (all_sides m) → times k (used m) ≡ 1

module _ (t : Type') (ss : List Split) (env : Meaning) where
  abbrev within : Meaning
  within = inside ss env

  one_known : (f : OneForm) (m : Numbered) → Known env (One t ss f m) → Known within m
  one_known f m is =
      let nones = two_none (lost_in env ss) (lost within m) is.none in
      record {
        stands = is.stands;
        none = nones.1;
        once = λ k. (let all = is.once k in let made_two = times-append k (sides ss) (made m) in omega (arith, all, made_two));
        loc = λ k small. (row k nones.0 small).1;
        sides_used = λ k small. (
            let low = sides_made k m in
            let free = (row k nones.0 (omega (arith, small, low))).0 in
            let sides_two = times-append k (sides ss) (all_sides m) in
            let uses = times-append k (split_in ss) (used m) in
            let whole = is.sides_used k (omega (arith, small, sides_two)) in
            omega (arith, free, uses, whole));
      }
    where
      row : (k : ℕ) → lost_in env ss ≡ [] → 0 < times k (made m) → (times k (split_in ss) ≡ 0) × (is_loc (within k) ≡ true)
      row k none small =
          let all = is.once k in
          let made_two = times-append k (sides ss) (made m) in
          row_unused k env ss none (is.loc k (omega (arith, small, made_two))) (omega (arith, small, all, made_two))

  under_known : (b : Binding) (n : ℕ) (m : Numbered) → Known env (Under t ss b n m) → Known (below n within) m
  under_known b n m is =
      let nones = two_none (lost_in env ss) (lost (below n within) m) is.none in
      record {
        stands = is.stands;
        none = nones.1;
        once = λ k. (
            let all = is.once k in let made_two = times-append k (sides ss) (n ∷ made m) in let more = behind k n (made m) in omega (arith, all, made_two, more));
        loc = λ k small. below_loc n k within (apart k small) (row k nones.0 small).1;
        sides_used = λ k small. (
            let low = sides_made k m in
            let free = (row k nones.0 (omega (arith, small, low))).0 in
            let sides_two = times-append k (sides ss) (all_sides m) in
            let uses = times-append k (split_in ss) (used m) in
            let whole = is.sides_used k (omega (arith, small, sides_two)) in
            omega (arith, free, uses, whole));
      }
    where
      row : (k : ℕ) → lost_in env ss ≡ [] → 0 < times k (made m) → (times k (split_in ss) ≡ 0) × (is_loc (within k) ≡ true)
      row k none small =
          let all = is.once k in
          let made_two = times-append k (sides ss) (n ∷ made m) in
          let more = behind k n (made m) in
          row_unused k env ss none (is.loc k (omega (arith, small, made_two, more))) (omega (arith, small, all, made_two, more))

      apart : (k : ℕ) → 0 < times k (made m) → k ≢ n
      apart k small e =
          let all = is.once k in
          let made_two = times-append k (sides ss) (n ∷ made m) in
          let here : times k (n ∷ made m) ≡ 1 + times k (made m) = subst (λ (a : ℕ). times a (n ∷ made m) ≡ 1 + times a (made m)) (sym e) (times_same n (made m)) in
          omega (arith, small, all, made_two, here)

  -- a part of several, by what the others make and use
  part_known : (m : Numbered) (others_made others_used : ℕ → ℕ) → UsesStand within m → lost within m ≡ [] → lost_in env ss ≡ []
      → ((k : ℕ) → times k (sides ss) + (times k (made m) + others_made k) ≤ 1)
      → ((k : ℕ) → 0 < times k (made m) → is_loc (env k) ≡ true)
      → ((k : ℕ) → 0 < times k (all_sides m) → times k (split_in ss) + (times k (used m) + others_used k) ≡ 1)
      → ((k : ℕ) → is_loc (within k) ≡ true → others_made k ≡ 0 → others_used k ≡ 0)
      → Known within m
  part_known m others_made others_used stands none none_here once loc sides_used free =
      record {
        stands = stands;
        none = none;
        once = λ k. (let all = once k in omega (arith, all));
        loc = λ k small. (row k small).1;
        sides_used = λ k small. (
            let low = sides_made k m in
            let (split, still) = row k (omega (arith, small, low)) in
            let all = once k in
            let away = free k still (omega (arith, small, low, all)) in
            let whole = sides_used k small in
            omega (arith, split, away, whole));
      }
    where
      row : (k : ℕ) → 0 < times k (made m) → (times k (split_in ss) ≡ 0) × (is_loc (within k) ≡ true)
      row k small = let all = once k in row_unused k env ss none_here (loc k small) (omega (arith, small, all))

known_within : (env : Meaning) (m : Numbered) → Known env m → SidesUsedWithin m
known_within env (Closed t ss c) is = is.sides_used
known_within env (Use t ss n) is = (is.sides_used, by_times (times n (sides ss)) refl)
  where
    by_times : (a : ℕ) → times n (sides ss) ≡ a → times n (sides ss) ≡ 0
    by_times zero e = e
    by_times (suc a) e =
        let loc = is.loc n (omega (arith, e)) in let both : true ≡ false = sym loc ∙ is.stands in absurd (cc both)
known_within env (Under t ss b n m) is = (
  λ k small. (let two = times-append k (sides ss) (all_sides m) in is.sides_used k (omega (arith, small, two))),
  known_within (below n (inside ss env)) m (under_known t ss env b n m is),
)
known_within env (One t ss f m) is = (
  λ k small. (let two = times-append k (sides ss) (all_sides m) in is.sides_used k (omega (arith, small, two))),
  known_within (inside ss env) m (one_known t ss env f m is),
)
known_within env (Two t ss f m n) is =
    let (none, both) = two_none (lost_in env ss) (lost (inside ss env) m ++ lost (inside ss env) n) is.none in
    let (none_first, none_second) = two_none (lost (inside ss env) m) (lost (inside ss env) n) both in
    let counted : (k : ℕ) → times k (made (Two t ss f m n)) ≡ times k (sides ss) + (times k (made m) + times k (made n)) =
    (λ k. (let one = times-append k (sides ss) (made m ++ made n) in let two = times-append k (made m) (made n) in omega (arith, one, two))) in
    let counted_sides : (k : ℕ) → times k (all_sides (Two t ss f m n)) ≡ times k (sides ss) + (times k (all_sides m) + times k (all_sides n)) =
    (λ k. (let one = times-append k (sides ss) (all_sides m ++ all_sides n) in let two = times-append k (all_sides m) (all_sides n) in omega (arith, one, two))) in
    let counted_uses : (k : ℕ) → times k (used (Two t ss f m n)) ≡ times k (split_in ss) + (times k (used m) + times k (used n)) =
    (λ k. (let one = times-append k (split_in ss) (used m ++ used n) in let two = times-append k (used m) (used n) in omega (arith, one, two))) in (
      λ k small. (let two = counted_sides k in is.sides_used k (omega (arith, small, two))),
      known_within (inside ss env) m
          (part_known t ss env m (λ k. times k (made n)) (λ k. times k (used n)) is.stands.0 none_first none
          (λ k. (let all = is.once k in let c = counted k in omega (arith, all, c)))
          (λ k small. (let c = counted k in is.loc k (omega (arith, small, c))))
          (λ k small. (let c = counted_sides k in let d = counted_uses k in let whole = is.sides_used k (omega (arith, small, c)) in omega (arith, d, whole)))
          (λ k loc free. unused k (inside ss env) n is.stands.1 none_second loc free)),
      known_within (inside ss env) n
          (part_known t ss env n (λ k. times k (made m)) (λ k. times k (used m)) is.stands.1 none_second none
          (λ k. (let all = is.once k in let c = counted k in omega (arith, all, c)))
          (λ k small. (let c = counted k in is.loc k (omega (arith, small, c))))
          (λ k small. (let c = counted_sides k in let d = counted_uses k in let whole = is.sides_used k (omega (arith, small, c)) in omega (arith, d, whole)))
          (λ k loc free. unused k (inside ss env) m is.stands.0 none_first loc free)),
    )
known_within env (If t ss m n p) is =
    let (none, more) = two_none (lost_in env ss) (lost (inside ss env) m ++ (lost (inside ss env) n ++ lost (inside ss env) p)) is.none in
    let (none_first, both) = two_none (lost (inside ss env) m) (lost (inside ss env) n ++ lost (inside ss env) p) more in
    let (none_second, none_third) = two_none (lost (inside ss env) n) (lost (inside ss env) p) both in
    let counted : (k : ℕ) → times k (made (If t ss m n p)) ≡ times k (sides ss) + (times k (made m) + (times k (made n) + times k (made p))) =
    (λ k. (let one = times-append k (sides ss) (made m ++ (made n ++ made p)) in
    let two = times-append k (made m) (made n ++ made p) in let three = times-append k (made n) (made p) in omega (arith, one, two, three))) in
    let counted_sides : (k : ℕ) → times k (all_sides (If t ss m n p)) ≡ times k (sides ss) + (times k (all_sides m) + (times k (all_sides n) + times k (all_sides p))) =
    (λ k. (let one = times-append k (sides ss) (all_sides m ++ (all_sides n ++ all_sides p)) in
    let two = times-append k (all_sides m) (all_sides n ++ all_sides p) in let three = times-append k (all_sides n) (all_sides p) in omega (arith, one, two, three))) in
    let counted_uses : (k : ℕ) → times k (used (If t ss m n p)) ≡ times k (split_in ss) + (times k (used m) + (times k (used n) + times k (used p))) =
    (λ k. (let one = times-append k (split_in ss) (used m ++ (used n ++ used p)) in
    let two = times-append k (used m) (used n ++ used p) in let three = times-append k (used n) (used p) in omega (arith, one, two, three))) in (
      λ k small. (let two = counted_sides k in is.sides_used k (omega (arith, small, two))),
      known_within (inside ss env) m
          (part_known t ss env m (λ k. times k (made n) + times k (made p)) (λ k. times k (used n) + times k (used p)) is.stands.0 none_first none
          (λ k. (let all = is.once k in let c = counted k in omega (arith, all, c)))
          (λ k small. (let c = counted k in is.loc k (omega (arith, small, c))))
          (λ k small. (let c = counted_sides k in let d = counted_uses k in let whole = is.sides_used k (omega (arith, small, c)) in omega (arith, d, whole)))
          (λ k loc free. (
          let one = unused k (inside ss env) n is.stands.1 none_second loc (omega (arith, free)) in
          let two = unused k (inside ss env) p is.stands.2 none_third loc (omega (arith, free)) in
          omega (arith, one, two)))),
      known_within (inside ss env) n
          (part_known t ss env n (λ k. times k (made m) + times k (made p)) (λ k. times k (used m) + times k (used p)) is.stands.1 none_second none
          (λ k. (let all = is.once k in let c = counted k in omega (arith, all, c)))
          (λ k small. (let c = counted k in is.loc k (omega (arith, small, c))))
          (λ k small. (let c = counted_sides k in let d = counted_uses k in let whole = is.sides_used k (omega (arith, small, c)) in omega (arith, d, whole)))
          (λ k loc free. (
          let one = unused k (inside ss env) m is.stands.0 none_first loc (omega (arith, free)) in
          let two = unused k (inside ss env) p is.stands.2 none_third loc (omega (arith, free)) in
          omega (arith, one, two)))),
      known_within (inside ss env) p
          (part_known t ss env p (λ k. times k (made m) + times k (made n)) (λ k. times k (used m) + times k (used n)) is.stands.2 none_third none
          (λ k. (let all = is.once k in let c = counted k in omega (arith, all, c)))
          (λ k small. (let c = counted k in is.loc k (omega (arith, small, c))))
          (λ k small. (let c = counted_sides k in let d = counted_uses k in let whole = is.sides_used k (omega (arith, small, c)) in omega (arith, d, whole)))
          (λ k loc free. (
          let one = unused k (inside ss env) m is.stands.0 none_first loc (omega (arith, free)) in
          let two = unused k (inside ss env) n is.stands.1 none_second loc (omega (arith, free)) in
          omega (arith, one, two)))),
    )

pub standing_is_split_at_forks : StandingIsSplitAtForks
standing_is_split_at_forks p m t stands typed =
    let uses = uses_stand p.imports [] (import_at p.imports) m t (subst (λ (x : Term). Typed p.imports [] x t) (sym stands.body) typed) in
    let none = none_lost p.imports m uses stands.made_once stands.no_import stands.sides_used in
    let within = known_within (import_at p.imports) m
    (record {
      stands = uses;
      none = none;
      once = stands.made_once;
      loc = λ k small. loc_first p.imports k (stands.no_import k small);
      sides_used = stands.sides_used;
    }) in
    (within, leaves_have_no_splits m within stands.made_once stands.apart)
