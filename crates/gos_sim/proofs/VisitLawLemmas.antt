-- Visited levels of a latch, and that there is one count of them.
use Rattle.std.specs.Prelude.{◌≡◌, ◌≢◌, ℕ, zero, suc, ◌<◌, ◌≤◌, List, [], ◌∷◌, Contains, Option, Some, slice_get, get_or, length}
use Rattle.std.proofs.Common.{arith, refl, sym, ap, subst, ◌∙◌}
use Rattle.std.proofs.lemmas.Option.{same_Some}
use Rattle.gos_netlist.specs.Nets.{Cell, Input, Or, Reg}
use Rattle.gos_netlist.specs.Cycles.{Distinct}
use Rattle.gos_netlist.specs.Settling.{Numbers, at, shown}
use Rattle.gos_netlist.specs.SmallNets.{bit, latch}
use Rattle.gos_netlist.proofs.SettlingLemmas.{acyclic_settles_once}
use Rattle.gos_netcheck.specs.Schedule.{IsSchedule}
use Rattle.gos_netcheck.proofs.LevelLawLemmas.{latch_has_levels, one_levels}
use Rattle.gos_netcheck.proofs.ScheduleLemmas.{scheduled_is_acyclic}
use Rattle.gos_sim.specs.Visits.{HasVisited, HaveOneCount, IsVisited, IsZeroSettling, LatchVisits, VisitsLevels}

-- a list without its element at a place
abbrev without : ℕ → List ℕ → List ℕ
without k [] = []
without zero (x ∷ xs) = xs
without (suc k) (x ∷ xs) = x ∷ without k xs

length-without : (k : ℕ) (xs : List ℕ) → k < length xs → suc (length (without k xs)) ≡ length xs
length-without k [] inside = absurd (omega (arith, inside))
length-without zero (x ∷ xs) inside = refl
length-without (suc k) (x ∷ xs) inside = ap suc (length-without k xs (omega (arith, inside)))

-- others stay in it
kept_in : (k : ℕ) (xs : List ℕ) (a d : ℕ) → Contains xs a → a ≢ get_or xs k d → Contains (without k xs) a
kept_in k [] a d has apart = has
kept_in zero (x ∷ xs) a d (zero, inside, is) apart = absurd (apart (sym is))
kept_in zero (x ∷ xs) a d (suc j, inside, is) apart = (j, omega (arith, inside), is)
kept_in (suc k) (x ∷ xs) a d (zero, inside, is) apart = (zero, omega arith, is)
kept_in (suc k) (x ∷ xs) a d (suc j, inside, is) apart =
    let rest = kept_in k xs a d (j, omega (arith, inside), is) apart in (suc rest.0, omega (arith, rest.1), rest.2)

-- a list without repetition is no longer than one that has all of it
no_longer : (xs ys : List ℕ) → Distinct xs → ((a : ℕ) → Contains xs a → Contains ys a) → length xs ≤ length ys
no_longer [] ys distinct among = omega arith
no_longer (x ∷ xs) ys (new, distinct) among =
    let here = among x (0, omega arith, refl) in
    let rest : length xs ≤ length (without here.0 ys) = no_longer xs (without here.0 ys) distinct
    (λ a has. kept_in here.0 ys a x (among a (suc has.0, omega (arith, has.1), has.2)) (λ same. new (subst (Contains xs) (same ∙ here.2) has))) in
    omega (arith, rest, length-without here.0 ys here.1)

module _ (cells : List Cell) (order : List ℕ) (scheduled : IsSchedule cells order) where
  no_more : (before now : Numbers) (count other : ℕ) → VisitsLevels cells before now count → VisitsLevels cells before now other → count ≤ other
  no_more before now count other a b =
      let same : a.levels ≡ b.levels = one_levels cells order a.levels b.levels scheduled a.leveled b.leveled in
      let few : length a.visited ≤ length b.visited =
      no_longer a.visited b.visited a.distinct (λ l has. b.whole l (subst (λ (ls : Numbers). IsVisited cells ls before now l) same (a.sound l has))) in
      omega (arith, few, a.counted, b.counted)

  one_of_two : (before now : Numbers) (count other : ℕ) → VisitsLevels cells before now count → VisitsLevels cells before now other → count ≡ other
  one_of_two before now count other a b = omega (arith, no_more before now count other a b, no_more before now other count b a)

  same_zero : (u v : Numbers) → IsZeroSettling cells u → IsZeroSettling cells v → u ≡ v
  same_zero u v first second = acyclic_settles_once cells _ _ u v (scheduled_is_acyclic cells order scheduled) first second

  same_count : (settlings : List Numbers) (count other : ℕ) → HasVisited cells settlings count → HasVisited cells settlings other → count ≡ other
  same_count [] count other a b = a ∙ sym b
  same_count (v ∷ []) count other (w, zero_w, a) (u, zero_u, b) =
      one_of_two u v count other (subst (λ (z : Numbers). VisitsLevels cells z v count) (same_zero w u zero_w zero_u) a) b
  same_count (v ∷ w ∷ vs) count other a b = one_of_two w v count other a b

pub one_count : (cells : List Cell) → HaveOneCount cells
one_count cells order settlings count other scheduled a b = same_count cells order scheduled settlings count other a b

-- what is shown at a cell that is known
settled : (v : Numbers) (n : ℕ) (a : Cell) (o : Option Cell) (x : Cell) → o ≡ Some a → o ≡ Some x
    → at v n ≡ shown a.width a.gate 0 0 (at v) → at v n ≡ shown x.width x.gate 0 0 (at v)
settled v n a o x e h q = subst (λ y. at v n ≡ shown y.width y.gate 0 0 (at v)) (same_Some a x (sym e ∙ h)) q

latch_zero : IsZeroSettling latch.cells (0 ∷ 0 ∷ 0 ∷ 0 ∷ [])
latch_zero = (refl, each)
  where
    each : (n : ℕ) (x : Cell) → slice_get latch.cells n ≡ Some x
        → at (0 ∷ 0 ∷ 0 ∷ 0 ∷ []) n ≡ shown x.width x.gate (at (0 ∷ 0 ∷ 0 ∷ 0 ∷ []) n) (at (0 ∷ 0 ∷ 0 ∷ 0 ∷ []) n) (at (0 ∷ 0 ∷ 0 ∷ 0 ∷ []))
    each zero x h = settled (0 ∷ 0 ∷ 0 ∷ 0 ∷ []) 0 (bit Input) _ x refl h refl
    each (suc zero) x h = settled (0 ∷ 0 ∷ 0 ∷ 0 ∷ []) 1 (bit (Or 0 2)) _ x refl h refl
    each (suc (suc zero)) x h = settled (0 ∷ 0 ∷ 0 ∷ 0 ∷ []) 2 (bit (Reg 1)) _ x refl h refl
    each (suc (suc (suc zero))) x h = settled (0 ∷ 0 ∷ 0 ∷ 0 ∷ []) 3 (bit (Reg 1)) _ x refl h refl
    each (suc (suc (suc (suc n)))) x h = grind (arith, h)

-- the only level above 0 is that of the gate
only_gate : (before now : Numbers) (l : ℕ) → IsVisited latch.cells (0 ∷ 1 ∷ 0 ∷ 0 ∷ []) before now l → l ≡ 1
only_gate before now l seen = by_net seen.net refl seen.stands seen.above
  where
    by_net : (n : ℕ) → n ≡ seen.net → at (0 ∷ 1 ∷ 0 ∷ 0 ∷ []) seen.net ≡ l → 0 < l → l ≡ 1
    by_net zero e stands above = let is : at (0 ∷ 1 ∷ 0 ∷ 0 ∷ []) 0 ≡ l = subst (λ (k : ℕ). at (0 ∷ 1 ∷ 0 ∷ 0 ∷ []) k ≡ l) (sym e) stands in absurd (omega (arith, is, above))
    by_net (suc zero) e stands above = let is : at (0 ∷ 1 ∷ 0 ∷ 0 ∷ []) 1 ≡ l = subst (λ (k : ℕ). at (0 ∷ 1 ∷ 0 ∷ 0 ∷ []) k ≡ l) (sym e) stands in sym is
    by_net (suc (suc zero)) e stands above = let is : at (0 ∷ 1 ∷ 0 ∷ 0 ∷ []) 2 ≡ l = subst (λ (k : ℕ). at (0 ∷ 1 ∷ 0 ∷ 0 ∷ []) k ≡ l) (sym e) stands in absurd (omega (arith, is, above))
    by_net (suc (suc (suc zero))) e stands above = let is : at (0 ∷ 1 ∷ 0 ∷ 0 ∷ []) 3 ≡ l = subst (λ (k : ℕ). at (0 ∷ 1 ∷ 0 ∷ 0 ∷ []) k ≡ l) (sym e) stands in absurd (omega (arith, is, above))
    by_net (suc (suc (suc (suc n)))) e stands above =
        let is : at (0 ∷ 1 ∷ 0 ∷ 0 ∷ []) (suc (suc (suc (suc n)))) ≡ l = subst (λ (k : ℕ). at (0 ∷ 1 ∷ 0 ∷ 0 ∷ []) k ≡ l) (sym e) stands in
        absurd (omega (arith, is, above))

-- it is visited where its request changes
gate_visited : (before now : Numbers) → at now 0 ≢ at before 0 → VisitsLevels latch.cells before now 1
gate_visited before now differs =
    record {
      levels = 0 ∷ 1 ∷ 0 ∷ 0 ∷ [];
      leveled = latch_has_levels;
      visited = 1 ∷ [];
      distinct = ((λ has. omega (arith, has.1)), tt);
      counted = refl;
      sound = sound;
      whole = λ l seen. (0, omega arith, sym (only_gate before now l seen));
    }
  where
    gate : IsVisited latch.cells (0 ∷ 1 ∷ 0 ∷ 0 ∷ []) before now 1
    gate = record { net = 1; cell = bit (Or 0 2); pin = 0; is = refl; stands = refl; above = omega arith; reads = (0, omega arith, refl); differs = differs }

    sound : (l : ℕ) → Contains (1 ∷ []) l → IsVisited latch.cells (0 ∷ 1 ∷ 0 ∷ 0 ∷ []) before now l
    sound l (zero, inside, is) = subst (λ (k : ℕ). IsVisited latch.cells (0 ∷ 1 ∷ 0 ∷ 0 ∷ []) before now k) is gate
    sound l (suc k, inside, is) = absurd (omega (arith, inside))

-- no level is where nothing changes
none_visited : (now : Numbers) → VisitsLevels latch.cells now now 0
none_visited now =
    record {
      levels = 0 ∷ 1 ∷ 0 ∷ 0 ∷ [];
      leveled = latch_has_levels;
      visited = [];
      distinct = tt;
      counted = refl;
      sound = λ l has. absurd (omega (arith, has.1));
      whole = λ l seen. absurd (seen.differs refl);
    }

pub latch_visits : LatchVisits
latch_visits = (
  ((0 ∷ 0 ∷ 0 ∷ 0 ∷ []), latch_zero, gate_visited (0 ∷ 0 ∷ 0 ∷ 0 ∷ []) (1 ∷ 1 ∷ 0 ∷ 0 ∷ []) (λ e. omega (arith, e))),
  gate_visited (1 ∷ 1 ∷ 0 ∷ 0 ∷ []) (0 ∷ 1 ∷ 1 ∷ 1 ∷ []) (λ e. omega (arith, e)),
  none_visited (0 ∷ 1 ∷ 1 ∷ 1 ∷ []),
)
