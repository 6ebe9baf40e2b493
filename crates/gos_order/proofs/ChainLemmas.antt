-- The chains of edges with one edge more, and what is read from them.
use Rattle.std.specs.Prelude.{◌≡◌, ◌≢◌, ◌<◌, ◌≤◌, ◌+◌, ℕ, zero, suc, List, [], ◌∷◌, ◌++◌, length, map, set}
use Rattle.std.proofs.Common.{sym, ◌∙◌, ap, subst, arith, inl, inr, get_or, get_or-set_other, get_or-set_same}
use Rattle.std.proofs.lemmas.Bool.{cases_eq}
use Rattle.std.proofs.lemmas.List.{length-set, length_push, get_or_push, get_or_append_left}
use Rattle.gos_order.specs.declared.links.Entry.{Entry}
use Rattle.gos_order.specs.declared.links.Way.{Way}
use Rattle.gos_order.specs.Rings.{Edge}
use Rattle.gos_order.specs.inner.NodeLists.{at}
use Rattle.gos_order.specs.inner.Chains.{near, near_at, IsLast, AreChained}
use Rattle.gos_order.specs.inner.Links.{edge_of}
use Rattle.gos_order.proofs.EdgeLemmas.{near_old, near_new}

-- what stands in an entry, from the entry that was read
pub read : {X : Type 0} (f : X → ℕ) (xs : List X) (place : ℕ) (x : X) → place < length xs → x ≡ get_or xs place x → at (map f xs) place ≡ f x
read f [] place x within is = absurd (omega (arith, within))
read f (y ∷ xs) zero x within is = ap f (sym is)
read f (y ∷ xs) (suc place) x within is = read f xs place x (omega (arith, within)) is

pub read_edge : (f : Edge → ℕ) (entries : List Entry) (place : ℕ) (entry : Entry) → place < length entries → entry ≡ get_or entries place entry
    → at (map f (map edge_of entries)) place ≡ f (edge_of entry)
read_edge f [] place entry within is = absurd (omega (arith, within))
read_edge f (e ∷ entries) zero entry within is = ap (λ (x : Entry). f (edge_of x)) (sym is)
read_edge f (e ∷ entries) (suc place) entry within is = read_edge f entries place entry (omega (arith, within)) is

-- what was last is so among more edges
last_old : (way : Way) (edges : List Edge) (edge : Edge) (before node last : ℕ) → before ≤ length edges → IsLast way edges before node last
    → IsLast way (edges ++ edge ∷ []) before node last
last_old way edges edge before node last fits is = record {
  within = is.within;
  there = λ place e. near_old way edges edge place (omega (arith, is.within, fits, e)) ∙ is.there place e;
  others = λ place low high same. is.others place low high (sym (near_old way edges edge place (omega (arith, high, fits))) ∙ same);
}

-- a new edge is the last at its node
last_new : (way : Way) (edges : List Edge) (edge : Edge) → IsLast way (edges ++ edge ∷ []) (length edges + 1) (near way edge) (length edges + 1)
last_new way edges edge = record {
  within = omega arith;
  there = λ place e.
      let is : place ≡ length edges = omega (arith, e) in
      subst (λ (k : ℕ). near_at way (edges ++ edge ∷ []) k ≡ near way edge) (sym is) (near_new way edges edge);
  others = λ place low high. absurd (omega (arith, low, high));
}

-- and at no other node
last_other : (way : Way) (edges : List Edge) (edge : Edge) (node last : ℕ) → near way edge ≢ node → IsLast way edges (length edges) node last
    → IsLast way (edges ++ edge ∷ []) (length edges + 1) node last
last_other way edges edge node last other is =
    let old = last_old way edges edge (length edges) node last (omega arith) is in
    record {
      within = omega (arith, is.within);
      there = old.there;
      others = λ place low high same. elim (cases_eq place (length edges)) [
        | inl e ↦ other (sym (near_new way edges edge) ∙ subst (λ (k : ℕ). near_at way (edges ++ edge ∷ []) k ≡ node) e same)
        | inr ne ↦ old.others place low (omega (arith, high, ne)) same
      ];
    }

module _ (way : Way) (edges : List Edge) (edge : Edge) (lasts nexts : List ℕ) (chained : AreChained way edges lasts nexts)
    (within : near way edge < length lasts) (sized : length nexts ≡ length edges) where
  more_ends : (node : ℕ) → node < length lasts
      → IsLast way (edges ++ edge ∷ []) (length edges + 1) node (at (set lasts (near way edge) (length edges + 1)) node)
  more_ends node low = elim (cases_eq node (near way edge)) [
    | inl e ↦ let at_new : at (set lasts (near way edge) (length edges + 1)) (near way edge) ≡ length edges + 1 =
        get_or-set_same lasts (near way edge) (length edges + 1) 0 within in
        subst (λ (n : ℕ). IsLast way (edges ++ edge ∷ []) (length edges + 1) n (at (set lasts (near way edge) (length edges + 1)) n)) (sym e)
        (subst (λ (last : ℕ). IsLast way (edges ++ edge ∷ []) (length edges + 1) (near way edge) last) (sym at_new) (last_new way edges edge))
    | inr ne ↦ let at_old : at (set lasts (near way edge) (length edges + 1)) node ≡ at lasts node =
        get_or-set_other lasts (near way edge) node (length edges + 1) 0 ne in
        subst (λ (last : ℕ). IsLast way (edges ++ edge ∷ []) (length edges + 1) node last) (sym at_old)
        (last_other way edges edge node (at lasts node) (λ e. ne (sym e)) (chained.ends node low))
  ]

  more_links : (place : ℕ) → place < length edges + 1
      → IsLast way (edges ++ edge ∷ []) place (near_at way (edges ++ edge ∷ []) place) (at (nexts ++ at lasts (near way edge) ∷ []) place)
  more_links place low = elim (cases_eq place (length edges)) [
    | inl e ↦ let next : at (nexts ++ at lasts (near way edge) ∷ []) (length edges) ≡ at lasts (near way edge) =
        get_or_push nexts (at lasts (near way edge)) 0 (length edges) sized in
        subst (λ (k : ℕ). IsLast way (edges ++ edge ∷ []) k (near_at way (edges ++ edge ∷ []) k) (at (nexts ++ at lasts (near way edge) ∷ []) k)) (sym e)
        (rw (near_new way edges edge, next) (last_old way edges edge (length edges) (near way edge) (at lasts (near way edge)) (omega arith)
        (chained.ends (near way edge) within)))
    | inr ne ↦ let short : place < length edges = omega (arith, low, ne) in
        let next : at (nexts ++ at lasts (near way edge) ∷ []) place ≡ at nexts place =
        get_or_append_left nexts (at lasts (near way edge) ∷ []) 0 place (omega (arith, short, sized)) in
        rw (near_old way edges edge place short, next) (last_old way edges edge place (near_at way edges place) (at nexts place) (omega (arith, short))
        (chained.links place short))
  ]

  -- the chains with one edge more
  pub chained_more : AreChained way (edges ++ edge ∷ []) (set lasts (near way edge) (length edges + 1)) (nexts ++ at lasts (near way edge) ∷ [])
  chained_more = record {
    ends = λ node low.
        let short : node < length lasts = omega (arith, low, length-set lasts (near way edge) (length edges + 1)) in
        rw length_push (more_ends node short);
    links = λ place low.
        let short : place < length edges + 1 = omega (arith, low, length_push edges edge) in
        more_links place short;
  }
