-- How the table of arrivals grows: by one start, by the joints one after another, and by the ends in no joint.
use Rattle.std.specs.Prelude.{Option, None, Some, is_none, not, ◌&&◌, ◌||◌}
use Rattle.std.proofs.Common.{◌≡◌, ℕ, zero, suc, ◌+◌, ◌≤◌, Bool, true, false, List, [], ◌∷◌, ◌++◌, length, refl, sym, ap, arith, ◌∙◌, map, take, slice_get}
use Rattle.gos_netlist.specs.Nets.{Cell}
use Rattle.gos_types.specs.Events.{Request, Answer}
use Rattle.gos_plan.specs.declared.kinds.Kind.{Kind}
use Rattle.gos_plan.specs.declared.kinds.Kind.TheVariants as kinds
use Rattle.gos_plan.specs.Kinds.{Part, Contact, part_contacts}
use Rattle.gos_plan.specs.Size.{shakes_of}
use Rattle.gos_plan.specs.Plans.{End, Joint, Plan, contact_at, same_end, is_free}
use Rattle.gos_plan.specs.Seen.{part_of}
use Rattle.gos_macro.specs.Gates.{Incoming}
use Rattle.gos_expand.specs.declared.arrivals.Origin.{Origin}
use Rattle.gos_expand.specs.declared.arrivals.Origin.TheVariants.{Cells}
use Rattle.gos_expand.specs.declared.arrivals.Arrivals.{Arrivals}
use Rattle.gos_expand.specs.Gates.{Making, ForEach, ForOrder, layout, part_size}
use Rattle.gos_expand.specs.inner.Dispatch.{gates_for, cells_in}
use Rattle.gos_expand.specs.Blocks.{total}
use Rattle.gos_expand.specs.Starts.{Laying, way_size, joint_size, loose_size}
use Rattle.gos_expand.proofs.BlockLemmas.{take_one}
use Rattle.gos_expand.proofs.PlaceLemmas.{length_first}
use Rattle.gos_expand.specs.inner.Arrivals.{arrival_if, AreAt, or_else, some_if, filled_if, Fills, by_way, start_by, start_by_joints, start_by_ends}

pub or_else_assoc : (a b c : Option Origin) → or_else (or_else a b) c ≡ or_else a (or_else b c)
or_else_assoc None b c = refl
or_else_assoc (Some n) b c = refl

pub or_else_none : (a : Option Origin) → or_else a None ≡ a
or_else_none None = refl
or_else_none (Some n) = refl

-- a table with these origins is one with the same origins
pub same_table : (p : Plan) (f g : End → Option Origin) (table : Arrivals) → ((e : End) → f e ≡ g e) → AreAt p f table → AreAt p g table
same_table p f g table same are e = are e ∙ ap (λ (s : Option Origin). arrival_if s (contact_at p e)) (same e)

filled_more : (b : Bool) (n : Origin) (s : Option Origin) (c : Option Contact) → filled_if b n (arrival_if s c) ≡ arrival_if (or_else s (some_if b n)) c
filled_more b n s None = refl
filled_more true n s (Some c) = refl
filled_more false n s (Some c) = ap (λ (t : Option Origin). arrival_if t (Some c)) (sym (or_else_none s))

-- one origin more
pub table_filled : (p : Plan) (f : End → Option Origin) (e : End) (n : Origin) (before after : Arrivals) → AreAt p f before → Fills e n before after
    → AreAt p (λ d. or_else (f d) (some_if (same_end d e) n)) after
table_filled p f e n before after are fills d =
    fills d ∙ (ap (filled_if (same_end d e) n) (are d) ∙ filled_more (same_end d e) n (f d) (contact_at p d))

-- a joint's
pub table_joined : (lay : Laying) (p : Plan) (x : ℕ) (f : End → Option Origin) (j : Joint) (n : ℕ) (asks serves : Origin) (first second third : Arrivals)
    → AreAt p f first → asks ≡ by_way (lay.keep x Answer) (n + way_size lay p x j Request) j.serving → serves ≡ by_way (lay.keep x Request) n j.asking
    → Fills j.asking asks first second → Fills j.serving serves second third → AreAt p (λ e. or_else (f e) (start_by lay p x n j e)) third
table_joined lay p x f j n asks serves first second third are asks_is serves_is fills_asks fills_serves e =
    table_filled p (λ d. or_else (f d) (some_if (same_end d j.asking) asks)) j.serving serves second third
    (table_filled p f j.asking asks first second are fills_asks) fills_serves e
    ∙ (ap (λ (s : Option Origin). arrival_if s (contact_at p e)) (or_else_assoc (f e) (some_if (same_end e j.asking) asks) (some_if (same_end e j.serving) serves))
    ∙ (λ i.
    arrival_if (or_else (f e) (or_else (some_if (same_end e j.asking) (asks_is i)) (some_if (same_end e j.serving) (serves_is i)))) (contact_at p e)))

-- the joints with one more
pub joints_more : (lay : Laying) (p : Plan) (k n : ℕ) (js : List Joint) (j : Joint) (e : End)
    → start_by_joints lay p k n (js ++ j ∷ []) e
    ≡ or_else (start_by_joints lay p k n js e) (start_by lay p (k + length js) (n + total (joint_size lay p) k js) j e)
joints_more lay p k n [] j e =
    let here : n + 0 ≡ n = omega arith in
    let first : k + 0 ≡ k = omega arith in
    rw (here, first) (or_else_none (start_by lay p k n j e))
joints_more lay p k n (x ∷ xs) j e =
    let sum : n + joint_size lay p k x + total (joint_size lay p) (suc k) xs ≡ n + (joint_size lay p k x + total (joint_size lay p) (suc k) xs) = omega arith in
    let shift : suc k + length xs ≡ k + suc (length xs) = omega arith in
    let rest : Option Origin = start_by_joints lay p (suc k) (n + joint_size lay p k x) xs e in
    ap (or_else (start_by lay p k n x e)) (joints_more lay p (suc k) (n + joint_size lay p k x) xs j e)
    ∙ (sym (or_else_assoc (start_by lay p k n x e) rest _)
    ∙ (λ i. or_else (or_else (start_by lay p k n x e) rest) (start_by lay p (shift i) (sum i) j e)))

-- the ends with one more
pub ends_more : (p : Plan) (k n : ℕ) (ds : List End) (d e : End)
    → start_by_ends p n (ds ++ d ∷ []) e ≡ or_else (start_by_ends p n ds e) (some_if (same_end e d) (Cells (n + total (loose_size p) k ds)))
ends_more p k n [] d e = let here : n + 0 ≡ n = omega arith in rw here (or_else_none (some_if (same_end e d) (Cells n)))
ends_more p k n (x ∷ xs) d e =
    let sum : n + loose_size p 0 x + total (loose_size p) (suc k) xs ≡ n + (loose_size p 0 x + total (loose_size p) (suc k) xs) = omega arith in
    ap (or_else (some_if (same_end e x) (Cells n))) (ends_more p (suc k) (n + loose_size p 0 x) xs d e)
    ∙ (sym (or_else_assoc (some_if (same_end e x) (Cells n)) (start_by_ends p (n + loose_size p 0 x) xs e) _)
    ∙ ap (λ (m : ℕ). or_else (or_else (some_if (same_end e x) (Cells n)) (start_by_ends p (n + loose_size p 0 x) xs e)) (some_if (same_end e d) (Cells m))) sum)

-- the cells of a part, whichever crate lays it out
pub cells_for : (m : Making) (k : Kind) → cells_in (gates_for m k) ≡ layout m (part_of k)
cells_for m kinds.Skip = refl
cells_for ForEach (kinds.Share t) = refl
cells_for (ForOrder order) (kinds.Share t) = refl
cells_for m k = refl

pub size_for : (m : Making) (k : Kind) (n : ℕ) → ((b : ℕ) (i : Incoming) → length (cells_in (gates_for m k) b i) ≡ n) → n ≡ part_size m (part_of k)
size_for m k n each =
    let nothing : Incoming = record { pulse = λ h. 0; value = λ h. 0 } in
    sym (each 0 nothing) ∙ ap (λ (f : ℕ → Incoming → List Cell). length (f 0 nothing)) (cells_for m k)

-- the origins by the first joints, with one more
pub joints_step : (lay : Laying) (p : Plan) (n i : ℕ) (js : List Joint) (j : Joint) (table : Arrivals) → slice_get js i ≡ Some j
    → AreAt p (λ e. or_else (start_by_joints lay p 0 n (take i js) e) (start_by lay p i (n + total (joint_size lay p) 0 (take i js)) j e)) table
    → AreAt p (start_by_joints lay p 0 n (take (i + 1) js)) table
joints_step lay p n i js j table there =
    let first = length_first i js j there in
    let count : 0 + length (take i js) ≡ i = omega (arith, first) in
    same_table p _ _ table
    (λ e.
    sym (ap (λ (ks : List Joint). start_by_joints lay p 0 n ks e) (take_one i js j there)
    ∙ (joints_more lay p 0 n (take i js) j e
    ∙ ap
    (λ (m : ℕ). or_else (start_by_joints lay p 0 n (take i js) e) (start_by lay p m (n + total (joint_size lay p) 0 (take i js)) j e))
    count)))

-- the origins by the first ends, with one more
pub ends_step : (p : Plan) (f : End → Option Origin) (n i : ℕ) (ds : List End) (d : End) (table : Arrivals) → slice_get ds i ≡ Some d
    → AreAt p (λ e. or_else (or_else (f e) (start_by_ends p n (take i ds) e)) (some_if (same_end e d) (Cells (n + total (loose_size p) 0 (take i ds))))) table
    → AreAt p (λ e. or_else (f e) (start_by_ends p n (take (i + 1) ds) e)) table
ends_step p f n i ds d table there =
    same_table p _ _ table
    (λ e. or_else_assoc (f e) (start_by_ends p n (take i ds) e) _
    ∙ sym (ap (or_else (f e)) (ap (λ (ks : List End). start_by_ends p n ks e) (take_one i ds d there) ∙ ends_more p 0 n (take i ds) d e)))

-- from the end of a list on, its first elements are all
pub all_mapped : {A B : Type 0} (f : A → B) (i : ℕ) (xs : List A) → length xs ≤ i → take i (map f xs) ≡ map f xs
all_mapped f zero [] over = refl
all_mapped f (suc i) [] over = refl
all_mapped f zero (x ∷ xs) over = absurd (grind (arith, over))
all_mapped {A} {B} f (suc i) (x ∷ xs) over = ap (λ (ys : List B). f x ∷ ys) (all_mapped f i xs (grind (arith, over)))

-- the handshakes of the first parts, with one more
pub shakes_more : (i : ℕ) (ks : List Part) (k : Part) → slice_get ks i ≡ Some k → shakes_of (take (i + 1) ks) ≡ shakes_of (take i ks) + length (part_contacts k)
shakes_more i ks k there = ap shakes_of (take_one i ks k there) ∙ behind (take i ks)
  where
    behind : (js : List Part) → shakes_of (js ++ k ∷ []) ≡ shakes_of js + length (part_contacts k)
    behind [] = omega arith
    behind (j ∷ js) = let rest = behind js in omega (arith, rest)

-- they are no more than all
pub shakes_within : (i : ℕ) (ks : List Part) → shakes_of (take i ks) ≤ shakes_of ks
shakes_within zero ks = omega arith
shakes_within (suc i) [] = omega arith
shakes_within (suc i) (k ∷ ks) = let rest = shakes_within i ks in omega (arith, rest)

-- nothing begins by joints exactly where an end stands in none
pub free_of_joints : (lay : Laying) (p : Plan) (x n : ℕ) (js : List Joint) (e : End) → is_none (start_by_joints lay p x n js e) ≡ is_free e js
free_of_joints lay p x n [] e = refl
free_of_joints lay p x n (j ∷ js) e =
    by_tests (same_end e j.asking) (same_end e j.serving) _ _ _ _ (free_of_joints lay p (suc x) (n + joint_size lay p x j) js e)
  where
    by_tests : (a b : Bool) (m n : Origin) (rest : Option Origin) (free : Bool) → is_none rest ≡ free
        → is_none (or_else (or_else (some_if a m) (some_if b n)) rest) ≡ not (a || b) && free
    by_tests true b m n rest free is = refl
    by_tests false true m n rest free is = refl
    by_tests false false m n rest free is = is
