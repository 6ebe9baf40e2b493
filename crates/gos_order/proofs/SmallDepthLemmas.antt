-- Depths of the small graph; that a graph has no others, since none of two is the greater one; and the longest paths.
use Rattle.std.specs.Prelude.{◌≡◌, ◌⊎◌, ◌<◌, ◌≤◌, ℕ, zero, suc, List}
use Rattle.std.proofs.Common.{refl, sym, ◌∙◌, subst, arith, inl, inr}
use Rattle.std.proofs.lemmas.List.{ext_get_or, get_or_past}
use Rattle.gos_order.specs.Rings.{Edge, Graph, Leads, along, further}
use Rattle.gos_order.specs.Depths.{at, AreDepths}
use Rattle.gos_order.specs.SmallDepths.{ShorterIsNone, DepthsAreFixed, RingsHaveNone, IsPath, empty, longer, DepthsAreLongest}

pub shorter_is_none : ShorterIsNone
shorter_is_none are = omega (arith, are.rise 1 2 (inr (inl (refl, refl))))

cases_lt : (a b : ℕ) → (a < b) ⊎ (b ≤ a)
cases_lt a b = grind arith

not_greater : (graph : Graph) (ds es : List ℕ) → AreDepths graph ds → AreDepths graph es → (most b : ℕ) → at ds b ≤ most → at ds b ≤ at es b
not_greater graph ds es first second zero b low = omega (arith, low)
not_greater graph ds es first second (suc most) b low = elim (cases_lt b graph.nodes) [
  | inl node ↦ elim (first.least b node) [
    | inl none ↦ omega (arith, none)
    | inr (a, edge, e) ↦
        let before : at ds a ≤ at es a = not_greater graph ds es first second most a (omega (arith, e, low)) in
        omega (arith, before, e, second.rise a b edge)
  ]
  | inr past ↦
      let none : at ds b ≡ 0 = get_or_past ds b 0 (omega (arith, past, first.all)) in
      omega (arith, none)
]

pub depths_are_fixed : DepthsAreFixed
depths_are_fixed graph ds es first second =
    ext_get_or 0 ds es (first.all ∙ sym second.all)
    (λ i _. omega (arith, not_greater graph ds es first second (at ds i) i (omega arith), not_greater graph es ds second first (at es i) i (omega arith)))

rise_path : (graph : Graph) (ds : List ℕ) → AreDepths graph ds → (a b : ℕ) → Leads graph.edges a b → at ds a < at ds b
rise_path graph ds are a b (along _ _ edge) = are.rise a b edge
rise_path graph ds are a b (further _ x _ edge path) = omega (arith, are.rise a x edge, rise_path graph ds are x b path)

pub rings_have_none : RingsHaveNone
rings_have_none graph ds are (a, ring) = omega (arith, rise_path graph ds are a a ring)

-- a node of depth 0 is a path of no edge
path_none : (edges : List Edge) (depth b : ℕ) → depth ≡ 0 → (a : ℕ) × IsPath edges depth a b
path_none edges depth b e = subst (λ (n : ℕ). (a : ℕ) × IsPath edges n a b) (sym e) (b, empty b)

path_to : (graph : Graph) (ds : List ℕ) → AreDepths graph ds → (most b : ℕ) → at ds b ≤ most → (a : ℕ) × IsPath graph.edges (at ds b) a b
path_to graph ds are zero b low = path_none graph.edges (at ds b) b (omega (arith, low))
path_to graph ds are (suc most) b low = elim (cases_lt b graph.nodes) [
  | inl node ↦ elim (are.least b node) [
    | inl e ↦ path_none graph.edges (at ds b) b e
    | inr (x, edge, e) ↦
        let (a, path) = path_to graph ds are most x (omega (arith, e, low)) in
        (a, subst (λ (n : ℕ). IsPath graph.edges n a b) (sym e) (longer (at ds x) a x b path edge))
  ]
  | inr past ↦ path_none graph.edges (at ds b) b (get_or_past ds b 0 (omega (arith, past, are.all)))
]

no_longer : (graph : Graph) (ds : List ℕ) → AreDepths graph ds → (n a b : ℕ) → IsPath graph.edges n a b → n ≤ at ds b
no_longer graph ds are _ a _ (empty _) = omega arith
no_longer graph ds are _ a b (longer n _ x _ path edge) = omega (arith, no_longer graph ds are n a x path, are.rise x b edge)

pub depths_are_longest : DepthsAreLongest
depths_are_longest graph ds are b = (path_to graph ds are (at ds b) b (omega arith), λ n a path. no_longer graph ds are n a b path)
