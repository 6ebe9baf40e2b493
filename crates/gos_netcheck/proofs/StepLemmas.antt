-- One step of the search, in terms of the program's lists.
use Rattle.std.specs.Prelude.{◌≡◌, ℕ, ◌+◌, ◌-◌, ◌<◌, true, false, List, [], ◌∷◌, ◌++◌, length, map, take, reverse, get_or, Some, slice_get, slice_set}
use Rattle.std.proofs.Common.{arith, refl, sym, ap, subst, ◌∙◌}
use Rattle.std.proofs.lemmas.List.{take_more, take_all, map-append, reverse-append, nil_from_length}
use Rattle.std.proofs.lemmas.Option.{slice_get_read, slice_get_within}
use Rattle.gos_netlist.specs.declared.nets.NetId.{NetId}
use Rattle.gos_netlist.specs.Nets.{Cell}
use Rattle.gos_netlist.specs.Seen.{number_of}
use Rattle.gos_netlist.specs.Cycles.{Feeds}
use Rattle.gos_netcheck.specs.declared.schedule.Mark.{Mark}
use Rattle.gos_netcheck.specs.declared.schedule.Mark.TheVariants.{New, Open, Placed}
use Rattle.gos_netcheck.specs.declared.schedule.Search.{Search}
use Rattle.gos_netcheck.specs.Accepted.{IsCycleFromLeast}
use Rattle.gos_netcheck.specs.Schedule.{IsSchedule}
use Rattle.gos_netcheck.specs.inner.Turning.{IsFrontTo, IsTurned}
use Rattle.gos_netcheck.specs.inner.Search.{Trail, IsSearch, Stands, path_of, IsReady, IsWaiting, IsBegun, IsLater}
use Rattle.gos_netcheck.proofs.TurnLemmas.{first, cycle_found}
use Rattle.gos_netcheck.proofs.SearchLemmas.{set_here, goes_on, places, places_at_once, later_by_open, later_by_placed, later_at_once, search_ends}
use Rattle.gos_netcheck.proofs.ScheduleLemmas.{place_of}

-- a path and one more net, from the last one back
pushed : (path : List NetId) (net : NetId) → reverse (map number_of (path ++ net ∷ [])) ≡ net.0 ∷ reverse (map number_of path)
pushed path net = ap reverse (map-append number_of path (net ∷ [])) ∙ reverse-append (map number_of path) (net.0 ∷ [])

-- the path without its last net, from the last one back
abbrev pub rest_of : Search → List ℕ
rest_of s = reverse (map number_of (take (s.path.len - 1) s.path.items))

-- the last net of the path, as the program reads it
pub record IsTop (s : Search) (net : NetId) : Type 0 where
  pub some : 0 < s.path.len
  pub is : net ≡ get_or s.path.items (s.path.len - 1) net

pub top_read : (s : Search) (net : NetId) (n : ℕ) → 0 < s.path.len → n ≡ s.path.len → net ≡ get_or s.path.items (n - 1) net → IsTop s net
top_read s net n some count is =
    let P : ℕ → Type 0 = λ k. net ≡ get_or s.path.items (k - 1) net in
    record { some = some; is = subst P count is }

path_is : (s : Search) (net : NetId) → IsTop s net → path_of s ≡ net.0 ∷ rest_of s
path_is s net top =
    let items : List NetId = s.path.items in
    let n : ℕ = s.path.len - 1 in
    let some : 0 < s.path.len = top.some in
    let count : s.path.len ≡ length items = s.path.ok.0 in
    let whole : take (n + 1) items ≡ items = take_all (n + 1) items (omega (arith, some, count)) in
    let parts : take (n + 1) items ≡ take n items ++ get_or items n net ∷ [] = take_more items n net (omega (arith, some, count)) in
    let last : take n items ++ get_or items n net ∷ [] ≡ take n items ++ net ∷ [] = ap (λ (x : NetId). take n items ++ x ∷ []) (sym top.is) in
    ap (λ (xs : List NetId). reverse (map number_of xs)) (sym whole ∙ parts ∙ last) ∙ pushed (take n items) net

standing : (cells : List Cell) (s : Search) (net : NetId) → IsTop s net → Stands cells s
    → IsSearch cells s.marks.items (net.0 ∷ rest_of s) (map number_of s.order.items)
standing cells s net top stands =
    let P : List ℕ → Type 0 = λ path. IsSearch cells s.marks.items path (map number_of s.order.items) in
    subst P (path_is s net top) stands

top_open : (cells : List Cell) (s : Search) (net : NetId) → IsTop s net → Stands cells s → slice_get s.marks.items net.0 ≡ Some Open
top_open cells s net top stands = (standing cells s net top stands).on_path net.0 (first net.0 (rest_of s))

pub top_within : (cells : List Cell) (s : Search) (net : NetId) → IsTop s net → Stands cells s → net.0 < length cells
top_within cells s net top stands =
    omega (arith, stands.count, slice_get_within s.marks.items net.0 Open (top_open cells s net top stands))

-- the last net gets its place
pub step_places : (cells : List Cell) (old new : Search) (net : NetId) → IsTop old net → Stands cells old → IsReady cells old.marks.items net.0
    → new.marks.items ≡ slice_set old.marks.items net.0 Placed → new.path.items ≡ take (old.path.len - 1) old.path.items
    → new.order.items ≡ old.order.items ++ net ∷ [] → Stands cells new × IsLater old.marks.items new.marks.items
step_places cells old new net top stands ready marks path order =
    let s = standing cells old net top stands in
    let next = places cells old.marks.items net.0 (rest_of old) (map number_of old.order.items) s ready in
    let nets : map number_of new.order.items ≡ map number_of old.order.items ++ net.0 ∷ [] =
    ap (map number_of) order ∙ map-append number_of old.order.items (net ∷ []) in
    let rest : path_of new ≡ rest_of old = ap (λ (xs : List NetId). reverse (map number_of xs)) path in
    let P : List Mark → Type 0 = λ m. IsSearch cells m (rest_of old) (map number_of old.order.items ++ net.0 ∷ []) in
    let Q : List ℕ → Type 0 = λ p. IsSearch cells new.marks.items p (map number_of old.order.items ++ net.0 ∷ []) in
    let R : List ℕ → Type 0 = λ o. IsSearch cells new.marks.items (path_of new) o in
    let L : List Mark → Type 0 = λ m. IsLater old.marks.items m in (
      subst R (sym nets) (subst Q (sym rest) (subst P (sym marks) next)),
      subst L (sym marks) (later_by_placed old.marks.items net.0 (top_open cells old net top stands)),
    )

-- the search goes on to a new net, which feeds the last one if there is one
pub step_goes_on : (cells : List Cell) (old new : Search) (net : NetId) → Stands cells old → slice_get old.marks.items net.0 ≡ Some New
    → Trail cells (net.0 ∷ path_of old) → new.marks.items ≡ slice_set old.marks.items net.0 Open
    → new.path.items ≡ old.path.items ++ net ∷ [] → new.order.items ≡ old.order.items → Stands cells new × IsLater old.marks.items new.marks.items
step_goes_on cells old new net stands is_new trail marks path order =
    let next = goes_on cells old.marks.items (path_of old) (map number_of old.order.items) net.0 stands is_new trail in
    let nets : map number_of new.order.items ≡ map number_of old.order.items = ap (map number_of) order in
    let longer : path_of new ≡ net.0 ∷ path_of old = ap (λ (xs : List NetId). reverse (map number_of xs)) path ∙ pushed old.path.items net in
    let P : List Mark → Type 0 = λ m. IsSearch cells m (net.0 ∷ path_of old) (map number_of old.order.items) in
    let Q : List ℕ → Type 0 = λ p. IsSearch cells new.marks.items p (map number_of old.order.items) in
    let R : List ℕ → Type 0 = λ o. IsSearch cells new.marks.items (path_of new) o in
    let L : List Mark → Type 0 = λ m. IsLater old.marks.items m in
    (subst R (sym nets) (subst Q (sym longer) (subst P (sym marks) next)), subst L (sym marks) (later_by_open old.marks.items net.0 is_new))

-- where the path is empty, a new net gets its place at once
pub step_places_at_once : (cells : List Cell) (old new : Search) (net : NetId) → old.path.len ≡ 0 → Stands cells old → slice_get old.marks.items net.0 ≡ Some New
    → IsReady cells old.marks.items net.0 → new.marks.items ≡ slice_set old.marks.items net.0 Placed → new.path.items ≡ take (old.path.len - 1) old.path.items
    → new.order.items ≡ old.order.items ++ net ∷ [] → Stands cells new × IsLater old.marks.items new.marks.items
step_places_at_once cells old new net none stands is_new ready marks path order =
    let e : old.path.items ≡ [] = nil_from_length old.path.items (omega (arith, none, old.path.ok.0)) in
    let still : new.path.items ≡ [] = path ∙ (ap (take (old.path.len - 1)) e ∙ take_all (old.path.len - 1) [] (omega arith)) in
    let P : List NetId → Type 0 = λ xs. IsSearch cells old.marks.items (reverse (map number_of xs)) (map number_of old.order.items) in
    let next = places_at_once cells old.marks.items net.0 (map number_of old.order.items) (subst P e stands) is_new ready in
    let nets : map number_of new.order.items ≡ map number_of old.order.items ++ net.0 ∷ [] =
    ap (map number_of) order ∙ map-append number_of old.order.items (net ∷ []) in
    let M : List Mark → Type 0 = λ m. IsSearch cells m [] (map number_of old.order.items ++ net.0 ∷ []) in
    let Q : List NetId → Type 0 = λ xs. IsSearch cells new.marks.items (reverse (map number_of xs)) (map number_of old.order.items ++ net.0 ∷ []) in
    let R : List ℕ → Type 0 = λ o. IsSearch cells new.marks.items (path_of new) o in
    let L : List Mark → Type 0 = λ m. IsLater old.marks.items m in
    (subst R (sym nets) (subst Q (sym still) (subst M (sym marks) next)), subst L (sym marks) (later_at_once old.marks.items net.0 is_new))

new_by_rest : (m : Mark) → (m ≡ Open → ⊥) → (m ≡ Placed → ⊥) → m ≡ New
new_by_rest New a b = refl
new_by_rest Open a b = absurd (a refl)
new_by_rest Placed a b = absurd (b refl)

-- a net that is waited for and isn't open is new, and makes the path longer
pub waited_for_is_new : (cells : List Cell) (s : Search) (net pin : NetId) (m : Mark) → IsTop s net → Stands cells s
    → IsWaiting cells s.marks.items net.0 pin.0 → slice_get s.marks.items pin.0 ≡ Some m → (m ≡ Open → false ≡ true)
    → (slice_get s.marks.items pin.0 ≡ Some New) × Trail cells (pin.0 ∷ path_of s)
waited_for_is_new cells s net pin m top stands waiting is other =
    let placed : m ≡ Placed → ⊥ = λ e. waiting.1 (is ∙ ap Some e) in
    let opened : m ≡ Open → ⊥ = λ e. let no : false ≡ true = other e in cc in
    let P : List ℕ → Type 0 = λ path. Trail cells (pin.0 ∷ path) in (
      is ∙ ap Some (new_by_rest m opened placed),
      subst P (sym (path_is s net top)) (waiting.0, (standing cells s net top stands).trail),
    )

-- an open net is on the path
pub open_on_path : (cells : List Cell) (s : Search) (n : ℕ) → Stands cells s → slice_get s.marks.items n ≡ Some Open
    → (i : ℕ) × (slice_get (path_of s) i ≡ Some n)
open_on_path cells s n stands is =
    let among = stands.opened n is in
    (among.0, place_of (path_of s) n among)

-- what is taken from the path is a cycle
pub step_finds : (cells : List Cell) (s : Search) (net pin : NetId) (nets : List ℕ) → IsTop s net → Stands cells s → Feeds cells pin.0 net.0
    → (front : List ℕ) × IsFrontTo (path_of s) pin.0 front × IsTurned front nets → IsCycleFromLeast cells nets
step_finds cells s net pin nets top stands feeds (front, is_front, turned) =
    let here = standing cells s net top stands in
    let P : List ℕ → Type 0 = λ path. IsFrontTo path pin.0 front in
    cycle_found cells net.0 (rest_of s) pin.0 front nets here.distinct here.trail feeds (subst P (path_is s net top) is_front) turned

-- a net that is read, by its mark
pub mark_read : (cells : List Cell) (s : Search) (n : ℕ) (m : Mark) → Stands cells s → n < length cells → m ≡ get_or s.marks.items n m
    → slice_get s.marks.items n ≡ Some m
mark_read cells s n m stands l is = slice_get_read s.marks.items (length s.marks.items) n m refl (omega (arith, l, stands.count)) is

pub waiting_read : (cells : List Cell) (s : Search) (net pin : ℕ) (m : Mark) → Stands cells s → IsWaiting cells s.marks.items net pin
    → m ≡ get_or s.marks.items pin m → slice_get s.marks.items pin ≡ Some m
waiting_read cells s net pin m stands ((c, e, is, rest, register, named), placed) read =
    mark_read cells s pin m stands (slice_get_within cells pin c is) read

-- where the path is empty, any new net may be gone on to
pub alone : (cells : List Cell) (s : Search) (n : ℕ) → s.path.len ≡ 0 → Trail cells (n ∷ path_of s)
alone cells s n none =
    let P : List NetId → Type 0 = λ items. Trail cells (n ∷ reverse (map number_of items)) in
    let e : s.path.items ≡ [] = nil_from_length s.path.items (omega (arith, none, s.path.ok.0)) in
    subst P (sym e) tt

-- the search ends
pub stands_last : (cells : List Cell) (s : Search) → Stands cells s → s.path.len ≡ 0
    → ((n : ℕ) → n < length cells → IsBegun (slice_get s.marks.items n)) → IsSchedule cells (map number_of s.order.items)
stands_last cells s stands none begun =
    let P : List NetId → Type 0 = λ xs. IsSearch cells s.marks.items (reverse (map number_of xs)) (map number_of s.order.items) in
    let e : s.path.items ≡ [] = nil_from_length s.path.items (omega (arith, none, s.path.ok.0)) in
    search_ends cells s.marks.items (map number_of s.order.items) (subst P e stands) begun

-- a net that is marked as placed is begun
pub placed_begun : (old new : List Mark) (n : ℕ) → n < length old → new ≡ slice_set old n Placed → IsBegun (slice_get new n)
placed_begun old new n l is =
    let P : List Mark → Type 0 = λ marks. IsBegun (slice_get marks n) in
    subst P (sym is) (subst IsBegun (sym (set_here old n Placed l)) tt)

-- a net that is marked as open is begun
pub open_begun : (old new : List Mark) (n : ℕ) → n < length old → new ≡ slice_set old n Open → IsBegun (slice_get new n)
open_begun old new n l is =
    let P : List Mark → Type 0 = λ marks. IsBegun (slice_get marks n) in
    subst P (sym is) (subst IsBegun (sym (set_here old n Open l)) tt)
