-- A node's plan, of which what is joined to the result is the plan of a smaller web: it stands in the wired one, with all else beside.
use Rattle.std.specs.Prelude.{◌≡◌, ℕ, suc, List, Option, Some, None, All, Contains, slice_get}
use Rattle.std.proofs.Common.{refl, sym, ◌∙◌, ap, subst}
use Rattle.gos_types.specs.Types.{Type'}
use Rattle.gos_model.specs.Typing.{Imported}
use Rattle.gos_model.specs.Terms.{Term}
use Rattle.gos_check.specs.Nodes.{Numbered, type_of_node}
use Rattle.gos_plan.specs.Kinds.{Part, Contact, asks, serves}
use Rattle.gos_plan.specs.Plans.{End, PartEnd, ImportEnd, ResultEnd, Plan, contact_at, contacts_of_part, contacts_of_import}
use Rattle.gos_plan.specs.TokenBits.{LiteralFits}
use Rattle.gos_realises.specs.realises.Regular.{IsRegular}
use Rattle.gos_supplies.specs.turns.Rests.{Rests}
use Rattle.gos_realises.specs.realises.Realises.{AllPorts, NamesDiffer, Realises}
use Rattle.gos_joining.specs.webs.Webs.{Dot, Of, Within, Tie, tie, Web, Way, joint, IsOfWeb}
use Rattle.gos_joining.proofs.webs.WayLemmas.{way_then, way_back, mapped_way}
use Rattle.gos_compile.specs.Wiring.{Types, parts_of}
use Rattle.gos_terms.specs.wired.Wired.{Supplies, Source, Origin, Placing, IsFrom, placed, source_dot, dot_at, wired_ties, wired_web, IsWired}
use Rattle.gos_supplies.specs.unjoined.Beside as beside
use Rattle.gos_supplies.specs.unjoined.Beside.{IsLoose, LiesIn, IsBeside}
use Rattle.gos_supplies.specs.unjoined.Homes.{AreHome, IsHome}
use Rattle.gos_supplies.proofs.unjoined.HomeLemmas.{web_is_beside}
use Rattle.gos_supplies.proofs.unjoined.LooseLemmas.{loose_is_regular, loose_rests, loose_is_realised}

-- How a smaller plan c, of the web v, lies in the node m wired to supplies: where each of its parts and imports comes from, which of
-- what comes from somewhere is one of them, which dot of v a dot of the wired web is, and a dot of that for each of v.
pub record Leaf (types : Types) (i j : ℕ) (m : Numbered) (ns : List ℕ) (env : Supplies) (c : Plan) (v : Web) : Type 0 where
  pub pick : Source → Option ℕ
  pub source : ℕ → Source
  pub pick_import : Origin → Option ℕ
  pub origin : ℕ → Origin
  pub home : Dot → Option Dot
  pub out : Dot → Dot
  pub outcome : c.outcome ≡ type_of_node m
  pub of_web : IsOfWeb v c
  pub parts : (k : ℕ) (x : Part) → slice_get c.parts k ≡ Some x → IsFrom (parts_of types m) ns env x (source k) × (pick (source k) ≡ Some k)
  pub parts_back :
      (s : Source) (x : Part) (k : ℕ) → IsFrom (parts_of types m) ns env x s → pick s ≡ Some k → (source k ≡ s) × (slice_get c.parts k ≡ Some x)
  pub imports :
      (k : ℕ) (x : Imported) → slice_get c.imports k ≡ Some x
      → Contains ns (origin k).number × (slice_get (env (origin k).number).plan.imports (origin k).import ≡ Some x) × (pick_import (origin k) ≡ Some k)
  pub imports_back :
      (o : Origin) (x : Imported) (k : ℕ) → slice_get (env o.number).plan.imports o.import ≡ Some x → pick_import o ≡ Some k
      → (origin k ≡ o) × (slice_get c.imports k ≡ Some x)
  pub ties : (a b : Dot) → Contains (wired_ties types i j m ns env) (tie a b) → AreHome v (home a) (home b)
  pub part_home : (k h : ℕ) (x : Part) → slice_get c.parts k ≡ Some x → home (source_dot i (source k) h) ≡ Some (v.at (PartEnd k h))
  pub import_home :
      (k h : ℕ) (x : Imported) → slice_get c.imports k ≡ Some x
      → home (Within (suc (origin k).number) (Of (ImportEnd (origin k).import h))) ≡ Some (v.at (ImportEnd k h))
  pub result_home : (h : ℕ) → home (Within 0 (Of (ResultEnd h))) ≡ Some (v.at (ResultEnd h))
  pub part_loose : (s : Source) (h : ℕ) (x : Part) → IsFrom (parts_of types m) ns env x s → pick s ≡ None → home (source_dot i s h) ≡ None
  pub import_loose : (o : Origin) (h : ℕ) → pick_import o ≡ None → home (Within (suc o.number) (Of (ImportEnd o.import h))) ≡ None
  pub out_ties : (t : Tie) → Contains v.ties t → Way (wired_ties types i j m ns env) (out t.one) (out t.other)
  pub part_out :
      (k h : ℕ) (x : Part) → slice_get c.parts k ≡ Some x → Way (wired_ties types i j m ns env) (source_dot i (source k) h) (out (v.at (PartEnd k h)))
  pub import_out :
      (k h : ℕ) (x : Imported) → slice_get c.imports k ≡ Some x
      → Way (wired_ties types i j m ns env) (Within (suc (origin k).number) (Of (ImportEnd (origin k).import h))) (out (v.at (ImportEnd k h)))
  pub result_out :
      (h : ℕ) (k : Contact) → contact_at c (ResultEnd h) ≡ Some k
      → Way (wired_ties types i j m ns env) (Within 0 (Of (ResultEnd h))) (out (v.at (ResultEnd h)))

-- the number that something there has, if it is one of the smaller plan's
abbrev number_of : {A : Type 0} → Option A → Option ℕ → Option ℕ
number_of None n = None
number_of (Some x) n = n

module _ (types : Types) (i j : ℕ) (m : Numbered) (ns : List ℕ) (env : Supplies) (c : Plan) (v : Web) (leaf : Leaf types i j m ns env c v)
    (pl : Placing) (r : Plan) (is : IsWired types i j m ns env pl r)
  where
    abbrev placing : beside.Placing
    placing =
        record {
          part = λ k. placed pl (leaf.source k);
          number = λ k. number_of (slice_get r.parts k) (leaf.pick (pl.source k));
          import = λ k. pl.import (leaf.origin k).number (leaf.origin k).import;
          import_number = λ k. number_of (slice_get r.imports k) (leaf.pick_import (pl.origin k));
        }

    part_lies : (k : ℕ) (x : Part) → slice_get c.parts k ≡ Some x
        → (slice_get r.parts (placed pl (leaf.source k)) ≡ Some x) × (placing.number (placing.part k) ≡ Some k)
    part_lies k x at =
        let (from, picked) = leaf.parts k x at in
        let (there, source) = is.parts x (leaf.source k) from in (
          there,
          ap (λ (o : Option Part). number_of o (leaf.pick (pl.source (placing.part k)))) there ∙ (ap leaf.pick source ∙ picked),
        )

    number_lies : (k n : ℕ) → placing.number k ≡ Some n → (placing.part n ≡ k) × ((x : Part) × (slice_get c.parts n ≡ Some x))
    number_lies k n own = by_part (slice_get r.parts k) refl
      where
        by_part : (o : Option Part) → slice_get r.parts k ≡ o → (placing.part n ≡ k) × ((x : Part) × (slice_get c.parts n ≡ Some x))
        by_part None none =
            let both : None ≡ Some n = sym (ap (λ (o : Option Part). number_of o (leaf.pick (pl.source k))) none) ∙ own in absurd (cc both)
        by_part (Some x) there =
            let picked : leaf.pick (pl.source k) ≡ Some n =
            sym (ap (λ (o : Option Part). number_of o (leaf.pick (pl.source k))) there) ∙ own
            in
            let (from, lands) = is.no_more k x there in
            let (source, at) = leaf.parts_back (pl.source k) x n from picked in
            (ap (placed pl) source ∙ lands, (x, at))

    import_lies : (k : ℕ) (x : Imported) → slice_get c.imports k ≡ Some x
        → (slice_get r.imports (placing.import k) ≡ Some x) × (placing.import_number (placing.import k) ≡ Some k)
    import_lies k x at =
        let (among, from, picked) = leaf.imports k x at in
        let (there, origin) = is.imports (leaf.origin k).number (leaf.origin k).import x among from in (
          there,
          ap (λ (o : Option Imported). number_of o (leaf.pick_import (pl.origin (placing.import k)))) there ∙ (ap leaf.pick_import origin ∙ picked),
        )

    import_number_lies : (k n : ℕ) → placing.import_number k ≡ Some n → (placing.import n ≡ k) × ((x : Imported) × (slice_get c.imports n ≡ Some x))
    import_number_lies k n own = by_import (slice_get r.imports k) refl
      where
        by_import : (o : Option Imported) → slice_get r.imports k ≡ o → (placing.import n ≡ k) × ((x : Imported) × (slice_get c.imports n ≡ Some x))
        by_import None none =
            let both : None ≡ Some n = sym (ap (λ (o : Option Imported). number_of o (leaf.pick_import (pl.origin k))) none) ∙ own in absurd (cc both)
        by_import (Some x) there =
            let picked : leaf.pick_import (pl.origin k) ≡ Some n =
            sym (ap (λ (o : Option Imported). number_of o (leaf.pick_import (pl.origin k))) there) ∙ own
            in
            let (among, from, lands) = is.no_import k x there in
            let (origin, at) = leaf.imports_back (pl.origin k) x n from picked in
            (ap (λ (o : Origin). pl.import o.number o.import) origin ∙ lands, (x, at))

    lies : LiesIn placing r c
    lies =
        record {
          outcome = is.outcome ∙ sym leaf.outcome;
          parts = part_lies;
          numbers = number_lies;
          imports = import_lies;
          import_numbers = import_number_lies;
        }

    -- where an end of the smaller plan stands
    part_stands : (k h : ℕ) (x : Part) → slice_get c.parts k ≡ Some x → dot_at i pl (PartEnd (placing.part k) h) ≡ source_dot i (leaf.source k) h
    part_stands k h x at = ap (λ (s : Source). source_dot i s h) (is.parts x (leaf.source k) (leaf.parts k x at).0).1

    import_stands : (k h : ℕ) (x : Imported) → slice_get c.imports k ≡ Some x
        → dot_at i pl (ImportEnd (placing.import k) h) ≡ Within (suc (leaf.origin k).number) (Of (ImportEnd (leaf.origin k).import h))
    import_stands k h x at =
        let from = leaf.imports k x at in
        ap (λ (o : Origin). Within (suc o.number) (Of (ImportEnd o.import h)))
        (is.imports (leaf.origin k).number (leaf.origin k).import x from.0 from.1).1

    ends : (e : End) (k : Contact) → contact_at c e ≡ Some k → leaf.home (dot_at i pl (beside.placed placing e)) ≡ Some (v.at e)
    ends (PartEnd n h) k at = by_part (slice_get c.parts n) refl
      where
        by_part : (o : Option Part) → slice_get c.parts n ≡ o → leaf.home (dot_at i pl (PartEnd (placing.part n) h)) ≡ Some (v.at (PartEnd n h))
        by_part None none =
            let both : None ≡ Some k = sym (ap (λ (o : Option Part). slice_get (contacts_of_part o) h) none) ∙ at in absurd (cc both)
        by_part (Some x) there = ap leaf.home (part_stands n h x there) ∙ leaf.part_home n h x there
    ends (ImportEnd n h) k at = by_import (slice_get c.imports n) refl
      where
        by_import : (o : Option Imported) → slice_get c.imports n ≡ o
            → leaf.home (dot_at i pl (ImportEnd (placing.import n) h)) ≡ Some (v.at (ImportEnd n h))
        by_import None none =
            let both : None ≡ Some k = sym (ap (λ (o : Option Imported). slice_get (contacts_of_import o) h) none) ∙ at in absurd (cc both)
        by_import (Some x) there = ap leaf.home (import_stands n h x there) ∙ leaf.import_home n h x there
    ends (ResultEnd h) k at = leaf.result_home h

    loose : (e : End) (k : Contact) → contact_at r e ≡ Some k → IsLoose placing e → leaf.home (dot_at i pl e) ≡ None
    loose (PartEnd n h) k at away = by_part (slice_get r.parts n) refl
      where
        by_part : (o : Option Part) → slice_get r.parts n ≡ o → leaf.home (source_dot i (pl.source n) h) ≡ None
        by_part None none =
            let both : None ≡ Some k = sym (ap (λ (o : Option Part). slice_get (contacts_of_part o) h) none) ∙ at in absurd (cc both)
        by_part (Some x) there =
            let none : leaf.pick (pl.source n) ≡ None = sym (ap (λ (o : Option Part). number_of o (leaf.pick (pl.source n))) there) ∙ away in
            leaf.part_loose (pl.source n) h x (is.no_more n x there).0 none
    loose (ImportEnd n h) k at away = by_import (slice_get r.imports n) refl
      where
        by_import : (o : Option Imported) → slice_get r.imports n ≡ o
            → leaf.home (Within (suc (pl.origin n).number) (Of (ImportEnd (pl.origin n).import h))) ≡ None
        by_import None none =
            let both : None ≡ Some k = sym (ap (λ (o : Option Imported). slice_get (contacts_of_import o) h) none) ∙ at in absurd (cc both)
        by_import (Some x) there =
            let none : leaf.pick_import (pl.origin n) ≡ None =
            sym (ap (λ (o : Option Imported). number_of o (leaf.pick_import (pl.origin n))) there) ∙ away
            in
            leaf.import_loose (pl.origin n) h none
    loose (ResultEnd h) k at away = absurd away

    abbrev all_ties : List Tie
    all_ties = wired_ties types i j m ns env

    ends_out : (e : End) (k : Contact) → contact_at c e ≡ Some k → Way all_ties (dot_at i pl (beside.placed placing e)) (leaf.out (v.at e))
    ends_out (PartEnd n h) k at = by_part (slice_get c.parts n) refl
      where
        by_part : (o : Option Part) → slice_get c.parts n ≡ o
            → Way all_ties (dot_at i pl (PartEnd (placing.part n) h)) (leaf.out (v.at (PartEnd n h)))
        by_part None none =
            let both : None ≡ Some k = sym (ap (λ (o : Option Part). slice_get (contacts_of_part o) h) none) ∙ at in absurd (cc both)
        by_part (Some x) there =
            subst (λ (d : Dot). Way all_ties d (leaf.out (v.at (PartEnd n h)))) (sym (part_stands n h x there)) (leaf.part_out n h x there)
    ends_out (ImportEnd n h) k at = by_import (slice_get c.imports n) refl
      where
        by_import : (o : Option Imported) → slice_get c.imports n ≡ o
            → Way all_ties (dot_at i pl (ImportEnd (placing.import n) h)) (leaf.out (v.at (ImportEnd n h)))
        by_import None none =
            let both : None ≡ Some k = sym (ap (λ (o : Option Imported). slice_get (contacts_of_import o) h) none) ∙ at in absurd (cc both)
        by_import (Some x) there =
            subst (λ (d : Dot). Way all_ties d (leaf.out (v.at (ImportEnd n h)))) (sym (import_stands n h x there)) (leaf.import_out n h x there)
    ends_out (ResultEnd h) k at = leaf.result_out h k at

    joints : (a b : End) → Contains c.joints (joint a b)
        → Way all_ties (dot_at i pl (beside.placed placing a)) (dot_at i pl (beside.placed placing b))
    joints a b has =
        let (q, x, asked, served, way) = (leaf.of_web.joints a b).0 has in
        way_then all_ties (dot_at i pl (beside.placed placing a)) (leaf.out (v.at a)) (dot_at i pl (beside.placed placing b))
        (ends_out a (asks q x) asked)
        (way_then all_ties (leaf.out (v.at a)) (leaf.out (v.at b)) (dot_at i pl (beside.placed placing b))
        (mapped_way v.ties all_ties leaf.out leaf.out_ties (v.at a) (v.at b) way)
        (way_back all_ties (dot_at i pl (beside.placed placing b)) (leaf.out (v.at b)) (ends_out b (serves q x) served)))

    leaf_home : IsHome leaf.home placing (wired_web types i j m ns env pl) v r c
    leaf_home = record { ties = leaf.ties; ends = ends; loose = loose; joints = joints }

    leaf_beside : IsBeside placing r c
    leaf_beside = web_is_beside leaf.home placing (wired_web types i j m ns env pl) v r c is.web leaf.of_web lies leaf_home

    -- what the smaller plan realises the whole does
    pub leaf_realises : (t : Type') (term : Term) → All LiteralFits r.parts → AllPorts r.imports → NamesDiffer r.imports → Realises t c term
        → Realises t r term
    leaf_realises t term literals ground names realised = loose_is_realised placing r c t term leaf_beside literals ground names realised

    -- and it is regular, and rests, where the smaller plan does
    pub leaf_regular : IsRegular c → Rests c → IsRegular r × Rests r
    leaf_regular regular rests = (loose_is_regular placing r c leaf_beside regular, loose_rests placing r c leaf_beside rests)
