-- What a search keeps with each edge that it follows.
use Rattle.std.specs.Prelude.{◌≡◌, ◌⊎◌, ◌<◌, ◌≤◌, ◌+◌, ℕ, List, length}
use Rattle.std.proofs.Common.{refl, sym, ◌∙◌, ap, subst, arith, inl, inr}
use Rattle.gos_order.specs.declared.links.Way.{Way}
use Rattle.gos_order.specs.declared.links.Way.TheVariants.{Out, In}
use Rattle.gos_order.specs.Rings.{Edge, HasEdge, Leads, along, further}
use Rattle.gos_order.specs.inner.NodeLists.{NodeList, at, IsIn}
use Rattle.gos_order.specs.inner.Chains.{HasStep, near_at, far_at, IsLast}
use Rattle.gos_order.specs.inner.Searches.{Task, IsWanted, LeadsOn, IsHeld, AreHeld, IsMet, IsDone, IsFollowed, Grows}
use Rattle.gos_order.proofs.EdgeLemmas.{step_at, place_of_step}

pub grows_not : (items : NodeList) → Grows items items
grows_not items = record { bound = refl; longer = omega arith; same = λ place h. refl }

pub grows_twice : (a b c : NodeList) → Grows a b → Grows b c → Grows a c
grows_twice a b c first second = record {
  bound = second.bound ∙ first.bound;
  longer = omega (arith, first.longer, second.longer);
  same = λ place h. second.same place (omega (arith, h, first.longer)) ∙ first.same place h;
}

pub in_grown : (old new : NodeList) (node : ℕ) → Grows old new → IsIn old.items node → IsIn new.items node
in_grown old new node grows (place, within, is) = (place, omega (arith, within, grows.longer), grows.same place within ∙ is)

done_grown : (task : Task) (old new : NodeList) (next : ℕ) → Grows old new → IsDone task old.items next → IsDone task new.items next
done_grown task old new next grows done = record {
  other = done.other;
  reached = λ wanted. in_grown old new next grows (done.reached wanted);
}

-- one edge more at the end of a path
pub leads_further : (edges : List Edge) (a b c : ℕ) → Leads edges a b → HasEdge edges b c → Leads edges a c
leads_further edges a b c (along _ _ h) edge = further a b c h (along b c edge)
leads_further edges a b c (further _ x _ h path) edge = further a x c h (leads_further edges x b c path edge)

-- a path that is followed this way, and one edge more
leads_on : (way : Way) (edges : List Edge) (start a b : ℕ) → (start ≡ a) ⊎ LeadsOn way edges start a → HasStep way edges a b → LeadsOn way edges start b
leads_on Out edges start a b (inl is) edge = along start b (subst (λ (x : ℕ). HasEdge edges x b) (sym is) edge)
leads_on Out edges start a b (inr path) edge = leads_further edges start a b path edge
leads_on In edges start a b (inl is) edge = along b start (subst (λ (x : ℕ). HasEdge edges b x) (sym is) edge)
leads_on In edges start a b (inr path) edge = further b a start edge path

-- where the next edge is that to the node at a place
module _ (task : Task) (old new : NodeList) (node place : ℕ) (among : IsIn old.items node) (within : place < length task.edges)
    (there : near_at task.way task.edges place ≡ node) where
  step_from : HasStep task.way task.edges node (far_at task.way task.edges place)
  step_from =
      subst (λ (x : ℕ). HasStep task.way task.edges x (far_at task.way task.edges place)) there (step_at task.way task.edges place within)

  pub met_here : (start : ℕ) → AreHeld task start old.items → IsIn task.apart (far_at task.way task.edges place) → IsMet task start
  met_here start held met = (
    far_at task.way task.edges place,
    met,
    leads_on task.way task.edges start node (far_at task.way task.edges place) (held node among).leads step_from,
  )

  pub held_here : (start : ℕ) → AreHeld task start old.items → (IsIn task.apart (far_at task.way task.edges place) → ⊥)
      → ((x : ℕ) → IsIn new.items x → IsIn old.items x ⊎ ((far_at task.way task.edges place ≡ x) × IsWanted task (far_at task.way task.edges place)))
      → AreHeld task start new.items
  held_here start held other only x h = elim (only x h) [
    | inl was ↦ held x was
    | inr (is, wanted) ↦ subst (λ (y : ℕ). IsHeld task start y) is (record {
      leads = inr (leads_on task.way task.edges start node (far_at task.way task.edges place) (held node among).leads step_from);
      wanted = wanted;
      other = other;
    })
  ]

-- the edges at a node from a place on are followed
abbrev pub AreDone : Task → List ℕ → ℕ → ℕ → Type 0
AreDone task items node last =
    (place : ℕ) → last ≤ place → place < length task.edges → near_at task.way task.edges place ≡ node → IsDone task items (far_at task.way task.edges place)

-- none is before the first
pub done_none : (task : Task) (items : List ℕ) (node last : ℕ) → IsLast task.way task.edges (length task.edges) node last → AreDone task items node last
done_none task items node last is place low high here = absurd (is.others place low high here)

-- one more
pub done_more : (task : Task) (old new : NodeList) (node place last : ℕ) → Grows old new → AreDone task old.items node (place + 1)
    → IsLast task.way task.edges place node last → IsDone task new.items (far_at task.way task.edges place) → AreDone task new.items node last
done_more task old new node place last grows done is here k low high at_node =
    elim (cases_lt k place) [
      | inl before ↦ absurd (is.others k low before at_node)
      | inr (inl same) ↦ subst (λ (x : ℕ). IsDone task new.items (far_at task.way task.edges x)) (sym same) here
      | inr (inr behind) ↦ done_grown task old new (far_at task.way task.edges k) grows (done k behind high at_node)
    ]
  where
    cases_lt : (a b : ℕ) → (a < b) ⊎ ((a ≡ b) ⊎ (b + 1 ≤ a))
    cases_lt a b = grind arith

-- all of them
pub done_all : (task : Task) (items : List ℕ) (node : ℕ) → AreDone task items node 0 → IsFollowed task items node
done_all task items node done next step =
    let (place, within, from, to) = place_of_step task.way task.edges node next step in
    subst (λ (x : ℕ). IsDone task items x) to (done place (omega arith) within from)

-- the nodes of a list before a place are followed
abbrev pub AreFollowedBefore : Task → List ℕ → ℕ → Type 0
AreFollowedBefore task items place = (k : ℕ) → k < place → IsFollowed task items (at items k)

pub followed_more : (task : Task) (old new : NodeList) (place : ℕ) → place < length old.items → Grows old new → AreFollowedBefore task old.items place
    → IsFollowed task new.items (at old.items place) → AreFollowedBefore task new.items (place + 1)
followed_more task old new place within grows followed here k low =
    elim (cases k place low) [
      | inl before ↦ λ next step.
          let was : HasStep task.way task.edges (at old.items k) next =
          subst (λ (x : ℕ). HasStep task.way task.edges x next) (grows.same k (omega (arith, before, within))) step in
          done_grown task old new next grows (followed k before next was)
      | inr same ↦
          let is : at old.items place ≡ at new.items k =
          sym (grows.same place within) ∙ ap (at new.items) (sym same) in
          subst (λ (x : ℕ). IsFollowed task new.items x) is here
    ]
  where
    cases : (a b : ℕ) → a < b + 1 → (a < b) ⊎ (a ≡ b)
    cases a b h = grind arith
