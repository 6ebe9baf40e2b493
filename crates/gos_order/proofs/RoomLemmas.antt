-- What the two searches for an edge tell.
use Rattle.std.specs.Prelude.{◌≡◌, ◌≢◌, ◌<◌, ◌∷◌, [], ℕ, zero, suc, List}
use Rattle.std.proofs.Common.{refl, sym, subst, arith, inl, inr}
use Rattle.gos_order.specs.declared.links.Way.TheVariants.{Out, In}
use Rattle.gos_order.specs.Rings.{Edge, Leads}
use Rattle.gos_order.specs.inner.NodeLists.{at, IsIn}
use Rattle.gos_order.specs.inner.Searches.{Task, IsWanted, IsHeld, AreHeld, IsMet, AreFollowed}
use Rattle.gos_order.specs.inner.Levels.{AreRising, AreBefore, AreBehind, MakesRoom}
use Rattle.gos_order.proofs.RingLemmas.{leads_twice}
use Rattle.gos_order.proofs.LevelLemmas.{parted}

-- a node is in a list of it alone, and no other one is
pub in_one : (items : List ℕ) (node : ℕ) → items ≡ node ∷ [] → IsIn items node
in_one items node is = subst (λ (xs : List ℕ). IsIn xs node) (sym is) (0, omega arith, refl)

pub only_one : (a b : ℕ) → IsIn (a ∷ []) b → a ≡ b
only_one a b (zero, within, is) = is
only_one a b (suc place, within, is) = absurd (omega (arith, within))

-- a search may begin at a node that is wanted
pub held_start : (task : Task) (start : ℕ) → IsWanted task start → (IsIn task.apart start → ⊥) → AreHeld task start (start ∷ [])
held_start task start wanted other node among =
    subst (λ (x : ℕ). IsHeld task start x) (only_one start node among) (record { leads = inl refl; wanted = wanted; other = other })

abbrev pub before_task : List Edge → List ℕ → List ℕ → ℕ → Task
before_task edges levels apart from = record { way = In; limit = at levels from; edges = edges; levels = levels; apart = apart }

abbrev pub behind_task : List Edge → List ℕ → List ℕ → ℕ → Task
behind_task edges levels before limit = record { way = Out; limit = limit; edges = edges; levels = levels; apart = before }

module _ (edges : List Edge) (levels apart : List ℕ) (from to : ℕ) (other : from ≢ to) (is : apart ≡ to ∷ []) where
  pub before_start : (items : List ℕ) → items ≡ from ∷ [] → AreHeld (before_task edges levels apart from) from items
  before_start items alone =
      subst (λ (xs : List ℕ). AreHeld (before_task edges levels apart from) from xs) (sym alone)
      (held_start (before_task edges levels apart from) from (omega arith)
      (λ among. other (sym (only_one to from (subst (λ (xs : List ℕ). IsIn xs from) is among)))))

  pub before_met : IsMet (before_task edges levels apart from) from → Leads edges to from
  before_met (node, among, path) =
      subst (λ (x : ℕ). Leads edges x from) (sym (only_one to node (subst (λ (items : List ℕ). IsIn items node) is among))) path

  pub before_other : (items : List ℕ) → AreHeld (before_task edges levels apart from) from items → IsIn items to → ⊥
  before_other items held among = (held to among).other (in_one apart to is)

  -- all edges were followed
  pub before_all : (items : List ℕ) → IsIn items from → AreHeld (before_task edges levels apart from) from items
      → AreFollowed (before_task edges levels apart from) items → AreBefore edges levels items from (at levels from)
  before_all items among held followed = record {
    among = among;
    leads = λ a here. (held a here).leads;
    all = λ a b edge here high. (followed b here a edge).reached high;
    low = omega arith;
    high = omega arith;
  }

module _ (edges : List Edge) (levels before : List ℕ) (from to limit : ℕ) (are_before : AreBefore edges levels before from limit) where
  pub behind_start : (items : List ℕ) → items ≡ to ∷ [] → at levels to < limit → (IsIn before to → ⊥) → AreHeld (behind_task edges levels before limit) to items
  behind_start items alone below other =
      subst (λ (xs : List ℕ). AreHeld (behind_task edges levels before limit) to xs) (sym alone) (held_start (behind_task edges levels before limit) to below other)

  pub behind_met : IsMet (behind_task edges levels before limit) to → Leads edges to from
  behind_met (node, among, path) = elim (are_before.leads node among) [
    | inl same ↦ subst (λ (x : ℕ). Leads edges to x) (sym same) path
    | inr more ↦ leads_twice edges to node from path more
  ]

  pub behind_room : (items : List ℕ) → AreRising edges levels → IsIn items to → (IsIn before to → ⊥)
      → AreHeld (behind_task edges levels before limit) to items → AreFollowed (behind_task edges levels before limit) items
      → MakesRoom edges levels items from to limit
  behind_room items rising among other held followed =
      let behind : AreBehind edges levels items to limit = record {
        among = inl among;
        all = λ a b edge here low. (followed a here b edge).reached low;
      } in
      record {
        behind = behind;
        rises = λ a here. omega (arith, (held a here).wanted);
        other = λ here. (held from here).other are_before.among;
        low = are_before.low;
        high = are_before.high;
        apart = parted edges levels before items from to limit rising are_before behind (λ a b edge here. (followed a here b edge).other) other;
      }
