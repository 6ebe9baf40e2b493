-- What serves the imports of a module, from the nodes of its givers.
use Rattle.std.proofs.Common.{◌≡◌, ℕ, Bool, true, false, List, [], ◌∷◌, ◌++◌, length, refl, sym, ap, Option, Some, None, ◌∙◌}
use Rattle.std.specs.Prelude.{if◌then◌else◌, ◌&&◌, slice_get}
use Rattle.std.specs.Str.{bytes_eq}
use Rattle.gos_syntax.specs.Modules.{SeenImport}
use Rattle.gos_model.specs.Terms.{Name}
use Rattle.gos_witness.specs.declared.adding.Supply.{Supply}
use Rattle.gos_witness.specs.declared.binding.Bound.{Bound}
use Rattle.gos_witness.specs.Substituted.{import_name, name_if}
use Rattle.gos_witness.specs.inner.Adding.{node_for}
use Rattle.gos_witness.specs.inner.Built.{or_else, is_made, node_if, node_of, giver_in, is_ready, AreBelow, AreImports}

-- a supply more
last_supply : (ss : List Supply) (s : Supply) (o : Option ℕ) (x : Name)
    → or_else (node_for (ss ++ s ∷ []) x) o ≡ or_else (node_for ss x) (if bytes_eq s.name.now x then Some s.node else o)
last_supply [] s o x = by (bytes_eq s.name.now x)
  where
    by : (b : Bool) → or_else (if b then Some s.node else None) o ≡ (if b then Some s.node else o)
    by true = refl
    by false = refl
last_supply (t ∷ ss) s o x = by (bytes_eq t.name.now x) (last_supply ss s o x)
  where
    by : (b : Bool) → or_else (node_for (ss ++ s ∷ []) x) o ≡ or_else (node_for ss x) (if bytes_eq s.name.now x then Some s.node else o)
        → or_else (if b then Some t.node else node_for (ss ++ s ∷ []) x) o
        ≡ or_else (if b then Some t.node else node_for ss x) (if bytes_eq s.name.now x then Some s.node else o)
    by true rest = refl
    by false rest = rest

pub supply_more : (is : List SeenImport) (nodes : List (Option ℕ)) (ss : List Supply) (s : Supply) (b : Bound) (bs : List Bound) (x : Name)
    → s.name.now ≡ import_name is b.import → node_if (slice_get nodes b.giver) ≡ Some s.node
    → or_else (node_for (ss ++ s ∷ []) x) (node_of nodes (giver_in is bs x)) ≡ or_else (node_for ss x) (node_of nodes (giver_in is (b ∷ bs) x))
supply_more is nodes ss s b bs x named at =
    last_supply ss s (node_of nodes (giver_in is bs x)) x
    ∙ ap (or_else (node_for ss x))
    (ap (λ (y : Name). if bytes_eq y x then Some s.node else node_of nodes (giver_in is bs x)) named ∙ by (bytes_eq (import_name is b.import) x))
  where
    by : (c : Bool) → (if c then Some s.node else node_of nodes (giver_in is bs x)) ≡ node_of nodes (if c then Some b.giver else giver_in is bs x)
    by true = sym at
    by false = refl

-- the supplies so far, or else those of the rest, are those of all binds
abbrev pub AreSupplies : List SeenImport → List (Option ℕ) → List Bound → List Supply → List Bound → Type 0
AreSupplies is nodes all ss rest =
    ((x : Name) → or_else (node_for ss x) (node_of nodes (giver_in is rest x)) ≡ node_of nodes (giver_in is all x))
    × (is_ready nodes rest ≡ true) × AreBelow (length nodes) rest × AreImports (length is) rest

pub supply_step : (is : List SeenImport) (nodes : List (Option ℕ)) (all : List Bound) (ss : List Supply) (s : Supply) (b : Bound) (rest : List Bound)
    → s.name.now ≡ import_name is b.import → node_if (slice_get nodes b.giver) ≡ Some s.node → AreSupplies is nodes all ss (b ∷ rest)
    → AreSupplies is nodes all (ss ++ s ∷ []) rest
supply_step is nodes all ss s b rest named at (same, ready, below, imports) =
    (λ x. supply_more is nodes ss s b rest x named at ∙ same x, by (is_made (node_if (slice_get nodes b.giver))) ready, below.1, imports.1)
  where
    by : (c : Bool) → (c && is_ready nodes rest) ≡ true → is_ready nodes rest ≡ true
    by true h = h
    by false h = absurd (cc h)

-- a name of an import that there is
pub named_of : (is : List SeenImport) (i : ℕ) (x : SeenImport) → slice_get is i ≡ Some x → x.name ≡ import_name is i
named_of is i x at = sym (ap name_if at)
