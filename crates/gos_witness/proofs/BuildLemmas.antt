-- Modules get nodes, each after its givers, until the root has one.
use Rattle.std.proofs.Common.{◌≡◌, ◌<◌, ◌≤◌, ℕ, zero, suc, Bool, true, false, List, [], ◌∷◌, length, ◌≢◌, ◌-◌, refl, sym, ap, subst, Option, Some, None, ◌∙◌, arith, nat_eq, not}
use Rattle.std.specs.Prelude.{if◌then◌else◌, slice_get, slice_set, ◌&&◌, Vec}
use Rattle.std.specs.Str.{bytes_eq}
use Rattle.std.specs.List.{AllByRecursion}
use Rattle.std.specs.declared.alloc.Global.{Global}
use Rattle.std.proofs.lemmas.Bool.{eqb-true, eqb-false}
use Rattle.gos_syntax.specs.Modules.{SeenImport, SeenModule}
use Rattle.gos_model.specs.Terms.{Name}
use Rattle.gos_model.specs.Sources.{program_of}
use Rattle.gos_model.specs.Linking.{Bind, Instances, linked, supplied, giver_of, body_at, with_giver}
use Rattle.gos_witness.specs.declared.binding.Bound.{Bound}
use Rattle.gos_witness.specs.NodeLists.{Listed, seen}
use Rattle.gos_witness.specs.Substituted.{imports_if, imports_at, import_name, instances_of, binds_of, linked_program, IsBind, AreOrdered, AreLinkable}
use Rattle.gos_witness.specs.inner.Built.{of_user, list_at, AreByUser, giver_in, node_if, node_of, is_made, has_node, is_ready, is_next, AreBelow, AllBelow, AreImports, giver_term, IsModuleNode, made, AreBuilt, IsBuilding}
use Rattle.gos_witness.specs.inner.Keeping.{Keeps}

-- the binds of a user are within bounds
below_of : (ms : List SeenModule) (u : ℕ) (bs : List Bound) → AllByRecursion (IsBind ms) bs → AreBelow (length ms) (of_user u bs)
below_of ms u [] all = tt
below_of ms u (b ∷ bs) all = by (nat_eq b.user u) (below_of ms u bs all.1)
  where
    by : (c : Bool) → AreBelow (length ms) (of_user u bs) → AreBelow (length ms) (if c then b ∷ of_user u bs else of_user u bs)
    by true rest = (all.0.giver, rest)
    by false rest = rest

pub all_below : (ms : List SeenModule) (vs : List (Vec Bound Global)) (bs : List Bound) → AllByRecursion (IsBind ms) bs → AreByUser (length ms) vs bs
    → AllBelow (length ms) vs
all_below ms vs bs all own u h =
    subst (λ (ys : List Bound). AreBelow (length ms) ys) (sym (own.own u (omega (arith, h, own.each)))) (below_of ms u bs all)

pub imports_of_user : (ms : List SeenModule) (u : ℕ) (bs : List Bound) → AllByRecursion (IsBind ms) bs → AreImports (length (imports_at ms u)) (of_user u bs)
imports_of_user ms u [] all = tt
imports_of_user ms u (b ∷ bs) all = by (nat_eq b.user u) refl (imports_of_user ms u bs all.1)
  where
    by : (c : Bool) → nat_eq b.user u ≡ c → AreImports (length (imports_at ms u)) (of_user u bs)
        → AreImports (length (imports_at ms u)) (if c then b ∷ of_user u bs else of_user u bs)
    by true e rest = (subst (λ (v : ℕ). b.import < length (imports_at ms v)) (eqb-true b.user u e) all.0.import, rest)
    by false e rest = rest

-- the giver of an import is that of the user's own binds
pub same_giver : (ms : List SeenModule) (u : ℕ) (bs : List Bound) (x : Name) → giver_of (binds_of ms bs) u x ≡ giver_in (imports_at ms u) (of_user u bs) x
same_giver ms u [] x = refl
same_giver ms u (b ∷ bs) x = by (nat_eq b.user u) refl (same_giver ms u bs x)
  where
    by : (c : Bool) → nat_eq b.user u ≡ c → giver_of (binds_of ms bs) u x ≡ giver_in (imports_at ms u) (of_user u bs) x
        → (if c && bytes_eq (import_name (imports_at ms b.user) b.import) x then Some b.giver else giver_of (binds_of ms bs) u x)
        ≡ giver_in (imports_at ms u) (if c then b ∷ of_user u bs else of_user u bs) x
    by true e rest = λ i.
        if bytes_eq (import_name (imports_at ms (eqb-true b.user u e i)) b.import) x then Some b.giver else rest i
    by false e rest = rest

-- a module that waits has a giver without a node
waits : (nodes : List (Option ℕ)) (u : ℕ) (bs : List Bound) → is_ready nodes (of_user u bs) ≡ false
    → (i : ℕ) × (b : Bound) × (slice_get bs i ≡ Some b) × (b.user ≡ u) × (has_node nodes b.giver ≡ false)
waits nodes u [] e = absurd (cc e)
waits nodes u (b ∷ bs) e = by (nat_eq b.user u) refl (has_node nodes b.giver) refl e (waits nodes u bs)
  where
    later : ((i : ℕ) × (b' : Bound) × (slice_get bs i ≡ Some b') × (b'.user ≡ u) × (has_node nodes b'.giver ≡ false))
        → (i : ℕ) × (b' : Bound) × (slice_get (b ∷ bs) i ≡ Some b') × (b'.user ≡ u) × (has_node nodes b'.giver ≡ false)
    later (i, b', at, user, left) = (suc i, b', at, user, left)

    by : (c : Bool) → nat_eq b.user u ≡ c → (d : Bool) → has_node nodes b.giver ≡ d
        → is_ready nodes (if c then b ∷ of_user u bs else of_user u bs) ≡ false
        → (is_ready nodes (of_user u bs) ≡ false
        → (i : ℕ) × (b' : Bound) × (slice_get bs i ≡ Some b') × (b'.user ≡ u) × (has_node nodes b'.giver ≡ false))
        → (i : ℕ) × (b' : Bound) × (slice_get (b ∷ bs) i ≡ Some b') × (b'.user ≡ u) × (has_node nodes b'.giver ≡ false)
    by true own true has h rest = later (rest (subst (λ (t : Bool). (t && is_ready nodes (of_user u bs)) ≡ false) has h))
    by true own false left h rest = (0, b, refl, eqb-true b.user u own, left)
    by false other d has h rest = later (rest h)

-- where none is next, none is left
module _ (ms : List SeenModule) (bs : List Bound) (vs : List (Vec Bound Global)) (nodes : List (Option ℕ)) where
  bind_at : (cs : List Bound) (i : ℕ) (b : Bound) → AllByRecursion (IsBind ms) cs → slice_get cs i ≡ Some b → IsBind ms b
  bind_at [] i b all e = absurd (cc e)
  bind_at (c ∷ cs) zero b all e = let same : c ≡ b = cc e in subst (λ (d : Bound). IsBind ms d) same all.0
  bind_at (c ∷ cs) (suc i) b all e = bind_at cs i b all.1 e

  stuck : (limit u : ℕ) (order : AreOrdered bs) → AllByRecursion (IsBind ms) bs → AreByUser (length ms) vs bs
      → ((v : ℕ) → v < length ms → is_next vs nodes v ≡ false) → order.rank u < limit → u < length ms → has_node nodes u ≡ false → ⊥
  stuck zero u order all own none low there left = absurd (omega (arith, low))
  stuck (suc limit) u order all own none low there left =
      let none_here : (not (has_node nodes u) && is_ready nodes (of_user u bs)) ≡ false =
      subst (λ (ys : List Bound). (not (has_node nodes u) && is_ready nodes ys) ≡ false) (own.own u there) (none u there) in
      let (i, b, at, user, left_giver) = waits nodes u bs (subst (λ (t : Bool). (not t && is_ready nodes (of_user u bs)) ≡ false) left none_here) in
      let lower : order.rank b.giver < order.rank u = subst (λ (v : ℕ). order.rank b.giver < order.rank v) user (order.lower i b at) in
      stuck limit b.giver order all own none (omega (arith, lower, low)) (bind_at bs i b all at).giver left_giver

-- so one is next while the root is left
pub goes_on : (ms : List SeenModule) (bs : List Bound) (vs : List (Vec Bound Global)) (nodes : List (Option ℕ)) (root : ℕ)
    → AreLinkable ms bs root → AreByUser (length ms) vs bs → length nodes ≡ length ms → has_node nodes root ≡ false
    → ((v : ℕ) → v < length nodes → is_next vs nodes v ≡ false) → ⊥
goes_on ms bs vs nodes root linkable own each left none =
    stuck ms bs vs nodes (suc (linkable.order.rank root)) root linkable.order linkable.binds own (λ v h. none v (omega (arith, h, each))) (omega arith)
    linkable.there left

-- what is next
pub next_left : (vs : List (Vec Bound Global)) (nodes : List (Option ℕ)) (u : ℕ) → is_next vs nodes u ≡ true → has_node nodes u ≡ false
next_left vs nodes u e = by (has_node nodes u) refl e
  where
    by : (c : Bool) → has_node nodes u ≡ c → (not c && is_ready nodes (list_at vs u)) ≡ true → has_node nodes u ≡ false
    by true has h = absurd (cc h)
    by false left h = left

pub next_is_ready : (vs : List (Vec Bound Global)) (nodes : List (Option ℕ)) (u : ℕ) → is_next vs nodes u ≡ true → is_ready nodes (list_at vs u) ≡ true
next_is_ready vs nodes u e = by (has_node nodes u) e
  where
    by : (c : Bool) → (not c && is_ready nodes (list_at vs u)) ≡ true → is_ready nodes (list_at vs u) ≡ true
    by true h = absurd (cc h)
    by false h = h

pub next_imports : (ms : List SeenModule) (bs : List Bound) (vs : List (Vec Bound Global)) (u : ℕ) → AllByRecursion (IsBind ms) bs
    → AreByUser (length ms) vs bs → u < length ms → AreImports (length (imports_at ms u)) (list_at vs u)
next_imports ms bs vs u all own there =
    subst (λ (ys : List Bound). AreImports (length (imports_at ms u)) ys) (sym (own.own u there)) (imports_of_user ms u bs all)

-- the counts of modules
made_set : (nodes : List (Option ℕ)) (u n : ℕ) → u < length nodes → has_node nodes u ≡ false → made (slice_set nodes u (Some n)) ≡ suc (made nodes)
made_set [] u n there left = absurd (omega (arith, there))
made_set (None ∷ nodes) zero n there left = refl
made_set (Some m ∷ nodes) zero n there left = absurd (cc left)
made_set (None ∷ nodes) (suc u) n there left = made_set nodes u n (omega (arith, there)) left
made_set (Some m ∷ nodes) (suc u) n there left = ap suc (made_set nodes u n (omega (arith, there)) left)

made_most : (nodes : List (Option ℕ)) → made nodes ≤ length nodes
made_most [] = omega arith
made_most (None ∷ nodes) = let h = made_most nodes in omega (arith, h)
made_most (Some m ∷ nodes) = let h = made_most nodes in omega (arith, h)

pub made_less : (nodes : List (Option ℕ)) (u : ℕ) → u < length nodes → has_node nodes u ≡ false → made nodes < length nodes
made_less [] u there left = absurd (omega (arith, there))
made_less (None ∷ nodes) zero there left = let h = made_most nodes in omega (arith, h)
made_less (Some m ∷ nodes) zero there left = absurd (cc left)
made_less (None ∷ nodes) (suc u) there left = let h = made_less nodes u (omega (arith, there)) left in omega (arith, h)
made_less (Some m ∷ nodes) (suc u) there left = let h = made_less nodes u (omega (arith, there)) left in omega (arith, h)

set_length : (nodes : List (Option ℕ)) (u : ℕ) (o : Option ℕ) → length (slice_set nodes u o) ≡ length nodes
set_length [] u o = refl
set_length (p ∷ nodes) zero o = refl
set_length (p ∷ nodes) (suc u) o = ap suc (set_length nodes u o)

set_other : (nodes : List (Option ℕ)) (u v : ℕ) (o : Option ℕ) → u ≢ v → slice_get (slice_set nodes u o) v ≡ slice_get nodes v
set_other [] u v o e = refl
set_other (p ∷ nodes) zero zero o e = absurd (e refl)
set_other (p ∷ nodes) zero (suc v) o e = refl
set_other (p ∷ nodes) (suc u) zero o e = refl
set_other (p ∷ nodes) (suc u) (suc v) o e = set_other nodes u v o (λ h. e (ap suc h))

set_same : (nodes : List (Option ℕ)) (u n m : ℕ) → slice_get (slice_set nodes u (Some n)) u ≡ Some (Some m) → n ≡ m
set_same [] u n m e = absurd (cc e)
set_same (p ∷ nodes) zero n m e = cc e
set_same (p ∷ nodes) (suc u) n m e = set_same nodes u n m e

-- a module more
more_built : (ps : Instances) (bs : List Bind) (l l' : Listed) (nodes : List (Option ℕ)) (u n : ℕ)
    → AreBuilt ps bs l nodes → Keeps l l' → u < length nodes → has_node nodes u ≡ false → n < length l'.nodes
    → ((k : ℕ) → made nodes ≤ k → seen l' n ≡ linked ps bs (suc k) u) → AreBuilt ps bs l' (slice_set nodes u (Some n))
more_built ps bs l l' nodes u n built keeps there left low term v m e = by (nat_eq u v) refl
  where
    count : made (slice_set nodes u (Some n)) ≡ suc (made nodes)
    count = made_set nodes u n there left

    here : (levels : ℕ) → made (slice_set nodes u (Some n)) ≤ levels → seen l' n ≡ linked ps bs levels u
    here zero h = absurd (omega (arith, h, count))
    here (suc k) h = term k (omega (arith, h, count))

    by : (c : Bool) → nat_eq u v ≡ c
        → (m < length l'.nodes) × ((levels : ℕ) → made (slice_set nodes u (Some n)) ≤ levels → seen l' m ≡ linked ps bs levels v)
    by true same =
        let uv : u ≡ v = eqb-true u v same in
        let nm : n ≡ m = set_same nodes u n m (subst (λ (w : ℕ). slice_get (slice_set nodes u (Some n)) w ≡ Some (Some m)) (sym uv) e) in (
          subst (λ (k : ℕ). k < length l'.nodes) nm low,
          λ levels h. sym (ap (seen l') nm) ∙ here levels h ∙ ap (linked ps bs levels) uv,
        )
    by false other =
        let (was, old) = built v m (sym (set_other nodes u v (Some n) (eqb-false u v other)) ∙ e) in
        (omega (arith, was, keeps.more), λ levels h. keeps.terms m was ∙ old levels (omega (arith, h, count)))

-- the terms of the givers are those with their givers put in
given : (ps : Instances) (bs : List Bind) (l : Listed) (nodes : List (Option ℕ)) (k : ℕ) (is : List SeenImport) (cs : List Bound) (x : Name)
    → AreBuilt ps bs l nodes → made nodes ≤ k → is_ready nodes cs ≡ true
    → giver_term l nodes is cs x ≡ with_giver (linked ps bs k) (giver_in is cs x)
given ps bs l nodes k is [] x built enough ready = refl
given ps bs l nodes k is (c ∷ cs) x built enough ready =
    by (bytes_eq (import_name is c.import) x) (slice_get nodes c.giver) refl ready (given ps bs l nodes k is cs x built enough)
  where
    by : (t : Bool) (o : Option (Option ℕ)) → slice_get nodes c.giver ≡ o → (is_made (node_if o) && is_ready nodes cs) ≡ true
        → (is_ready nodes cs ≡ true → giver_term l nodes is cs x ≡ with_giver (linked ps bs k) (giver_in is cs x))
        → with_giver (seen l) (node_of nodes (if t then Some c.giver else giver_in is cs x))
        ≡ with_giver (linked ps bs k) (if t then Some c.giver else giver_in is cs x)
    by t None at h rest = absurd (cc h)
    by t (Some None) at h rest = absurd (cc h)
    by true (Some (Some n)) at h rest =
        ap (λ (o : Option (Option ℕ)). with_giver (seen l) (node_if o)) at ∙ ap Some ((built c.giver n at).1 k enough)
    by false (Some (Some n)) at h rest = rest h

module_body : (ms : List SeenModule) (u : ℕ) (m : SeenModule) → slice_get ms u ≡ Some m → body_at (instances_of ms) u ≡ (program_of m).body
module_body [] u m e = absurd (cc e)
module_body (n ∷ ms) zero m e = let same : n ≡ m = cc e in ap (λ (o : SeenModule). (program_of o).body) same
module_body (n ∷ ms) (suc u) m e = module_body ms u m e

-- the new node is the module's term, one level deeper
deeper : (ms : List SeenModule) (bs : List Bound) (vs : List (Vec Bound Global)) (l l' : Listed) (nodes : List (Option ℕ)) (u n k : ℕ) (m : SeenModule)
    → AreByUser (length ms) vs bs → AreBuilt (instances_of ms) (binds_of ms bs) l nodes → u < length ms → slice_get ms u ≡ Some m
    → is_ready nodes (list_at vs u) ≡ true → IsModuleNode l l' m (list_at vs u) nodes n → made nodes ≤ k
    → seen l' n ≡ linked (instances_of ms) (binds_of ms bs) (suc k) u
deeper ms bs vs l l' nodes u n k m own built there at ready node enough =
    let ps = instances_of ms in
    let cs = binds_of ms bs in
    let imports : imports_at ms u ≡ m.imports = ap imports_if at in
    let serves : (x : Name) → giver_term l nodes m.imports (list_at vs u) x ≡ with_giver (linked ps cs k) (giver_of cs u x) =
    λ x.
    given ps cs l nodes k m.imports (list_at vs u) x built enough ready
    ∙ (λ i. with_giver (linked ps cs k) (giver_in (sym imports i) (own.own u there i) x))
    ∙ sym (ap (with_giver (linked ps cs k)) (same_giver ms u bs x)) in
    node.term (λ x. with_giver (linked ps cs k) (giver_of cs u x)) serves
    ∙ sym (ap (supplied (λ x. with_giver (linked ps cs k) (giver_of cs u x))) (module_body ms u m at))

-- a module more, which isn't the root
pub one_more : (ms : List SeenModule) (bs : List Bound) (vs : List (Vec Bound Global)) (root : ℕ) (l l' : Listed) (nodes : List (Option ℕ)) (u n : ℕ)
    (m : SeenModule) → AreByUser (length ms) vs bs → IsBuilding ms bs root l nodes → Keeps l l' → u < length nodes → slice_get ms u ≡ Some m
    → is_next vs nodes u ≡ true → IsModuleNode l l' m (list_at vs u) nodes n → u ≢ root
    → IsBuilding ms bs root l' (slice_set nodes u (Some n))
one_more ms bs vs root l l' nodes u n m own building keeps there at next node other = record {
  each = set_length nodes u (Some n) ∙ building.each;
  root_left = ap (λ (o : Option (Option ℕ)). is_made (node_if o)) (set_other nodes u root (Some n) other) ∙ building.root_left;
  built =
      more_built (instances_of ms) (binds_of ms bs) l l' nodes u n building.built keeps there (next_left vs nodes u next) node.there
      (λ k enough.
      deeper ms bs vs l l' nodes u n k m own building.built (omega (arith, there, building.each)) at (next_is_ready vs nodes u next) node enough);
}

-- the root
map_length : (ms : List SeenModule) → length (instances_of ms) ≡ length ms
map_length [] = refl
map_length (m ∷ ms) = ap suc (map_length ms)

pub root_made : (ms : List SeenModule) (bs : List Bound) (vs : List (Vec Bound Global)) (root : ℕ) (l l' : Listed) (nodes : List (Option ℕ)) (u n : ℕ)
    (m : SeenModule) → AreByUser (length ms) vs bs → IsBuilding ms bs root l nodes → u < length nodes → slice_get ms u ≡ Some m
    → is_next vs nodes u ≡ true → IsModuleNode l l' m (list_at vs u) nodes n → u ≡ root → seen l' n ≡ (linked_program ms bs root).body
root_made ms bs vs root l l' nodes u n m own building there at next node same =
    subst (λ (r : ℕ). seen l' n ≡ (linked_program ms bs r).body) same (by (length (instances_of ms)) (map_length ms))
  where
    less : made nodes < length nodes
    less = made_less nodes u there (next_left vs nodes u next)

    by : (k : ℕ) → k ≡ length ms → seen l' n ≡ linked (instances_of ms) (binds_of ms bs) k u
    by zero e = absurd (omega (arith, e, less, building.each))
    by (suc k) e =
        deeper ms bs vs l l' nodes u n k m own building.built (omega (arith, there, building.each)) at (next_is_ready vs nodes u next) node
        (omega (arith, e, less, building.each))

-- fewer modules are left
pub fewer_left : (k : ℕ) (vs : List (Vec Bound Global)) (nodes : List (Option ℕ)) (u n : ℕ) → length nodes ≡ k → u < length nodes
    → is_next vs nodes u ≡ true → k - made (slice_set nodes u (Some n)) < k - made nodes
fewer_left k vs nodes u n each there next =
    let left = next_left vs nodes u next in
    let count = made_set nodes u n there left in
    let less = made_less nodes u there left in
    omega (arith, count, less, each)
