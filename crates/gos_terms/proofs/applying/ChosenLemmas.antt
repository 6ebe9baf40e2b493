-- A child of a node is placed where its parts and imports are chosen from the node's.
use Rattle.std.specs.Prelude.{◌≡◌, ℕ, Bool, List, [], Some, slice_get, Contains}
use Rattle.std.proofs.Common.{refl, ◌∙◌, ap}
use Rattle.gos_model.specs.Typing.{Imported}
use Rattle.gos_check.specs.Nodes.{Numbered, type_of_node}
use Rattle.gos_plan.specs.Kinds.{Part}
use Rattle.gos_plan.specs.Plans.{Joint, Plan}
use Rattle.gos_compile.specs.Wiring.{Types, parts_of}
use Rattle.gos_terms.specs.wired.Wired.{Supplies, Placing, Source, Own, Supplied, Origin, IsFrom, placed, wired_web, IsWired}
use Rattle.gos_joining.proofs.weaving.PlanLemmas.{web_has_plan}
use Rattle.gos_terms.specs.applying.Uses.{IsPlaced, CanBeWired}
use Rattle.gos_terms.proofs.applying.PermuteLemmas.{Standing}

-- How a child's sources are among the node's: which are chosen, and what each is there.
pub record Choice (ours theirs : List Part) (ns ms : List ℕ) (env : Supplies) (b : Bool) (pick : Source → Bool) (has : ℕ → Bool) (up down : Source → Source) : Type 0 where
  pub inward : (x : Part) (s : Source) → IsFrom ours ms env x s → IsFrom theirs ns env x (up s) × (pick (up s) ≡ b) × (down (up s) ≡ s)
  pub outward : (x : Part) (s : Source) → IsFrom theirs ns env x s → pick s ≡ b → IsFrom ours ms env x (down s) × (up (down s) ≡ s)
  pub among : (n : ℕ) → Contains ms n → Contains ns n × (has n ≡ b)
  pub within : (n : ℕ) → Contains ns n → has n ≡ b → Contains ms n

-- the node's plan, with the parts and imports placed, before its web is spoken of
pub record Placed (theirs : List Part) (ns : List ℕ) (env : Supplies) (pl : Placing) (r : Plan) : Type 0 where
  pub parts : (x : Part) (s : Source) → IsFrom theirs ns env x s → (slice_get r.parts (placed pl s) ≡ Some x) × (pl.source (placed pl s) ≡ s)
  pub no_more : (k : ℕ) (x : Part) → slice_get r.parts k ≡ Some x → IsFrom theirs ns env x (pl.source k) × (placed pl (pl.source k) ≡ k)
  pub imports :
      (n k : ℕ) (x : Imported) → Contains ns n → slice_get (env n).plan.imports k ≡ Some x
      → (slice_get r.imports (pl.import n k) ≡ Some x) × (pl.origin (pl.import n k) ≡ record { number = n; import = k })
  pub no_import :
      (k : ℕ) (x : Imported) → slice_get r.imports k ≡ Some x
      → Contains ns (pl.origin k).number × (slice_get (env (pl.origin k).number).plan.imports (pl.origin k).import ≡ Some x)
      × (pl.import (pl.origin k).number (pl.origin k).import ≡ k)

module _
    (types : Types) (m : Numbered) (theirs : List Part) (ns ms : List ℕ) (env : Supplies) (pl : Placing) (r : Plan) (b : Bool)
    (pick : Source → Bool) (has : ℕ → Bool) (up down : Source → Source) (part_in part_out import_in import_out : ℕ → ℕ)
    (ps : List Part) (is : List Imported) where
  abbrev pub placing : Placing
  placing =
      record {
        own = λ k. part_in (placed pl (up (Own k)));
        supplied = λ n k. part_in (placed pl (up (Supplied n k)));
        import = λ n k. import_in (pl.import n k);
        source = λ k. down (pl.source (part_out k));
        origin = λ k. pl.origin (import_out k);
      }

  abbrev pub child : Plan
  child = record { weight = 0; imports = is; outcome = type_of_node m; parts = ps; joints = [] }

  module _
      (choice : Choice (parts_of types m) theirs ns ms env b pick has up down) (node : Placed theirs ns env pl r)
      (parts : Standing b (λ k. pick (pl.source k)) r.parts ps part_in part_out)
      (imports : Standing b (λ k. has (pl.origin k).number) r.imports is import_in import_out) where
    placed_is : (s : Source) → placed placing s ≡ part_in (placed pl (up s))
    placed_is (Own k) = refl
    placed_is (Supplied n k) = refl

    abbrev Part' : Part → Source → Type 0
    Part' x s = (slice_get ps (placed placing s) ≡ Some x) × (placing.source (placed placing s) ≡ s)

    parts_placed : (x : Part) (s : Source) → IsFrom (parts_of types m) ms env x s → Part' x s
    parts_placed x s from =
        let (there, picked, round) = choice.inward x s from in
        let (at, source) = node.parts x (up s) there in
        let (here, back) = parts.inward (placed pl (up s)) x at (ap pick source ∙ picked) in
        let where_is = placed_is s in (
          ap (slice_get ps) where_is ∙ here,
          ap (λ (k : ℕ). down (pl.source (part_out k))) where_is ∙ (ap (λ (k : ℕ). down (pl.source k)) back ∙ (ap down source ∙ round)),
        )

    no_more : (k : ℕ) (x : Part) → slice_get ps k ≡ Some x → IsFrom (parts_of types m) ms env x (placing.source k) × (placed placing (placing.source k) ≡ k)
    no_more k x at =
        let (here, picked, round) = parts.outward k x at in
        let (from, back) = node.no_more (part_out k) x here in
        let (ours, up_is) = choice.outward x (pl.source (part_out k)) from picked in (
          ours,
          placed_is (placing.source k) ∙ (ap (λ (s : Source). part_in (placed pl s)) up_is ∙ (ap part_in back ∙ round)),
        )

    imports_placed : (n k : ℕ) (x : Imported) → Contains ms n → slice_get (env n).plan.imports k ≡ Some x
        → (slice_get is (placing.import n k) ≡ Some x) × (placing.origin (placing.import n k) ≡ record { number = n; import = k })
    imports_placed n k x has_n at =
        let (in_ns, picked) = choice.among n has_n in
        let (there, origin) = node.imports n k x in_ns at in
        let (here, back) = imports.inward (pl.import n k) x there (ap (λ (o : Origin). has o.number) origin ∙ picked) in
        (here, ap pl.origin back ∙ origin)

    no_import : (k : ℕ) (x : Imported) → slice_get is k ≡ Some x
        → Contains ms (placing.origin k).number × (slice_get (env (placing.origin k).number).plan.imports (placing.origin k).import ≡ Some x)
        × (placing.import (placing.origin k).number (placing.origin k).import ≡ k)
    no_import k x at =
        let (here, picked, round) = imports.outward k x at in
        let (in_ns, there, back) = node.no_import (import_out k) x here in
        (choice.within (pl.origin (import_out k)).number in_ns picked, there, ap import_in back ∙ round)

    pub child_placed : IsPlaced types m ms env placing child
    child_placed =
        record { outcome = refl; parts = parts_placed; no_more = no_more; imports = imports_placed; no_import = no_import }

    -- so it has a plan
    pub child_wired : (i j : ℕ) → CanBeWired types i j m ms env
        → (js : List Joint) × IsWired types i j m ms env placing (record child { joints = js })
    child_wired i j can =
        let (fits, plain) = can placing child child_placed in
        let (js, web) = web_has_plan (wired_web types i j m ms env placing) child fits plain in (
          js,
          record {
            outcome = refl;
            parts = parts_placed;
            no_more = no_more;
            imports = imports_placed;
            no_import = no_import;
            web = web;
          },
        )
