-- A cycle turned is a cycle, and the front of a path is one where its last net feeds its first one.
use Rattle.std.specs.Prelude.{◌≡◌, ℕ, zero, suc, ◌+◌, ◌-◌, ◌<◌, ◌≤◌, ◌⊎◌, List, [], ◌∷◌, ◌++◌, length, map, take, drop, reverse, get_or, Contains, All, Some, slice_get}
use Rattle.std.specs.List.{AllByRecursion}
use Rattle.std.proofs.Common.{arith, refl, sym, ap, subst, inl, inr, ◌∙◌}
use Rattle.std.proofs.Math.ListN.{get_or-map}
use Rattle.std.proofs.lemmas.List.{append-nil, take-append-drop, length-map, length-reverse, get_or-reverse, map-append, drop_more, take-map}
use Rattle.std.proofs.lemmas.List.Elements.{Contains-append_left, Contains-append_cases, All-append, All-take, All-drop, recursion_from_All, All-from_get_or}
use Rattle.std.proofs.lemmas.Option.{same_Some, slice_get-get_or, get_or_from_slice_get}
use Rattle.gos_netlist.specs.declared.nets.NetId.{NetId}
use Rattle.gos_netlist.specs.Nets.{Cell}
use Rattle.gos_netlist.specs.Seen.{number_of}
use Rattle.gos_netlist.specs.Cycles.{Feeds, Chain, Distinct, CombinationalCycle}
use Rattle.gos_netcheck.specs.Accepted.{BeginsWithLeast, IsCycleFromLeast}
use Rattle.gos_netcheck.specs.inner.Turning.{IsFrontTo, IsTurned}
use Rattle.gos_netcheck.specs.inner.Search.{Trail}
use Rattle.gos_netcheck.proofs.RuleLemmas.{get_mapped}

-- what a list of nets is read as past its end
abbrev pub no_net : NetId
no_net = record { 0 = 0 }

pub first : (a : ℕ) (ns : List ℕ) → Contains (a ∷ ns) a
first a ns = (0, omega arith, refl)

pub later : (a b : ℕ) (ns : List ℕ) → Contains ns a → Contains (b ∷ ns) a
later a b ns (k, l, e) = (suc k, omega (arith, l), e)

pub head_or_later : (a b : ℕ) (ns : List ℕ) → Contains (b ∷ ns) a → (b ≡ a) ⊎ Contains ns a
head_or_later a b ns (zero, l, e) = inl e
head_or_later a b ns (suc k, l, e) = inr (k, omega (arith, l), e)

pub not_in_nil : (a : ℕ) → Contains [] a → ⊥
not_in_nil a (k, l, e) = omega (arith, l)

among_front : (n a : ℕ) (ns : List ℕ) → Contains (take n ns) a → Contains ns a
among_front n a ns h =
    let P : List ℕ → Type 0 = λ xs. Contains xs a in
    subst P (take-append-drop n ns) (Contains-append_left (take n ns) (drop n ns) a h)

distinct_front : (n : ℕ) (ns : List ℕ) → Distinct ns → Distinct (take n ns)
distinct_front zero ns h = tt
distinct_front (suc n) [] h = tt
distinct_front (suc n) (a ∷ ns) h = (λ among. h.0 (among_front n a ns among), distinct_front n ns h.1)

-- the parts of a list of different nets
record Parted (xs ys : List ℕ) : Type 0 where
  left : Distinct xs
  right : Distinct ys
  apart : (a : ℕ) → Contains xs a → Contains ys a → ⊥

among_right : (xs ys : List ℕ) (b : ℕ) → Contains ys b → Contains (xs ++ ys) b
among_right [] ys b among = among
among_right (x ∷ xs) ys b among = later b x (xs ++ ys) (among_right xs ys b among)

parted_cons : (x : ℕ) (xs ys : List ℕ) → (Contains (xs ++ ys) x → ⊥) → Parted xs ys → Parted (x ∷ xs) ys
parted_cons x xs ys new rest =
    record {
      left = (λ among. new (Contains-append_left xs ys x among), rest.left);
      right = rest.right;
      apart = λ a left right. by_place a right (head_or_later a x xs left);
    }
  where
    by_place : (a : ℕ) → Contains ys a → (x ≡ a) ⊎ Contains xs a → ⊥
    by_place a right (inl e) =
        let P : ℕ → Type 0 = λ n. Contains ys n in
        new (among_right xs ys x (subst P (sym e) right))
    by_place a right (inr left) = rest.apart a left right

parted : (xs ys : List ℕ) → Distinct (xs ++ ys) → Parted xs ys
parted [] ys h = record { left = tt; right = h; apart = λ a among _. not_in_nil a among }
parted (x ∷ xs) ys h = parted_cons x xs ys h.0 (parted xs ys h.1)

joined : (xs ys : List ℕ) → Distinct xs → Distinct ys → ((a : ℕ) → Contains xs a → Contains ys a → ⊥) → Distinct (xs ++ ys)
joined [] ys left right apart = right
joined (x ∷ xs) ys left right apart =
    (λ among. by_part (Contains-append_cases xs ys x among), joined xs ys left.1 right (λ a one other. apart a (later a x xs one) other))
  where
    by_part : Contains xs x ⊎ Contains ys x → ⊥
    by_part (inl one) = left.0 one
    by_part (inr other) = apart x (first x xs) other

chain_joined : (cells : List Cell) (xs : List ℕ) (y : ℕ) (ys : List ℕ) (z : ℕ) → Chain cells xs y → Chain cells (y ∷ ys) z
    → Chain cells (xs ++ y ∷ ys) z
chain_joined cells [] y ys z one other = other
chain_joined cells (a ∷ []) y ys z one other = (one, other)
chain_joined cells (a ∷ b ∷ xs) y ys z one other = (one.0, chain_joined cells (b ∷ xs) y ys z one.1 other)

chain_parted : (cells : List Cell) (xs : List ℕ) (y : ℕ) (ys : List ℕ) (z : ℕ) → Chain cells (xs ++ y ∷ ys) z
    → Chain cells xs y × Chain cells (y ∷ ys) z
chain_parted cells [] y ys z chain = (tt, chain)
chain_parted cells (a ∷ []) y ys z chain = chain
chain_parted cells (a ∷ b ∷ xs) y ys z chain =
    let rest = chain_parted cells (b ∷ xs) y ys z chain.1 in
    ((chain.0, rest.0), rest.1)

-- a cycle with its parts in each other's place
swapped : (cells : List Cell) (xs ys : List ℕ) → CombinationalCycle cells (xs ++ ys) → CombinationalCycle cells (ys ++ xs)
swapped cells [] ys cycle = subst (CombinationalCycle cells) (sym (append-nil ys)) cycle
swapped cells (x ∷ xs) [] cycle = subst (CombinationalCycle cells) (append-nil (x ∷ xs)) cycle
swapped cells (x ∷ xs) (y ∷ ys) cycle =
    let parts = parted (x ∷ xs) (y ∷ ys) cycle.0 in
    let chains = chain_parted cells (x ∷ xs) y ys x cycle.1 in (
      joined (y ∷ ys) (x ∷ xs) parts.right parts.left (λ a one other. parts.apart a other one),
      chain_joined cells (y ∷ ys) x xs y chains.1 chains.0,
    )

turned : (cells : List Cell) (k : ℕ) (front : List ℕ) → CombinationalCycle cells front → CombinationalCycle cells (drop k front ++ take k front)
turned cells k front cycle =
    swapped cells (take k front) (drop k front) (subst (CombinationalCycle cells) (sym (take-append-drop k front)) cycle)

front_chain : (cells : List Cell) (ns : List ℕ) (i p z : ℕ) → Trail cells ns → slice_get ns i ≡ Some p → Feeds cells p z
    → Chain cells (take (suc i) ns) z
front_chain cells [] i p z trail is feeds = absurd cc
front_chain cells (a ∷ ns) zero p z trail is feeds =
    let P : ℕ → Type 0 = λ n. Feeds cells n z in
    subst P (sym (same_Some a p is)) feeds
front_chain cells (a ∷ []) (suc i) p z trail is feeds = absurd cc
front_chain cells (a ∷ b ∷ ns) (suc i) p z trail is feeds = (trail.0, front_chain cells (b ∷ ns) i p z trail.1 is feeds)

-- what the search comes upon is a cycle
pub cycle_found : (cells : List Cell) (top : ℕ) (rest : List ℕ) (p : ℕ) (front nets : List ℕ) → Distinct (top ∷ rest) → Trail cells (top ∷ rest)
    → Feeds cells p top → IsFrontTo (top ∷ rest) p front → IsTurned front nets → IsCycleFromLeast cells nets
cycle_found cells top rest p front nets distinct trail feeds (i, is, e) (k, turn, least) =
    let whole : CombinationalCycle cells (take (suc i) (top ∷ rest)) =
    (distinct_front (suc i) (top ∷ rest) distinct, front_chain cells (top ∷ rest) i p top trail is feeds) in
    let cycle : CombinationalCycle cells front = subst (CombinationalCycle cells) (sym e) whole in
    (subst (CombinationalCycle cells) (sym turn) (turned cells k front cycle), least)

-- a net of the path, counted from its end
pub back_at : (path : List NetId) (i : ℕ) (d : NetId) → i < length path
    → slice_get (reverse (map number_of path)) i ≡ Some (get_or path (length path - 1 - i) d).0
back_at path i d l =
    let nets : List ℕ = map number_of path in
    let count : length nets ≡ length path = length-map path number_of in
    let within : i < length (reverse nets) = omega (arith, l, count, length-reverse nets) in
    let here : get_or (reverse nets) i 0 ≡ get_or nets (length nets - 1 - i) 0 = get_or-reverse nets i 0 (omega (arith, l, count)) in
    let read = get_mapped number_of path (length path - 1 - i) d (omega (arith, l)) in
    let there : get_or nets (length path - 1 - i) 0 ≡ (get_or path (length path - 1 - i) d).0 =
    get_or_from_slice_get nets (length path - 1 - i) _ 0 read in
    slice_get-get_or (reverse nets) i 0 within ∙ ap Some (here ∙ ap (λ (m : ℕ). get_or nets (m - 1 - i) 0) count ∙ there)

pub take_one_more : {A : Type 0} (xs : List A) (i : ℕ) (x : A) → slice_get xs i ≡ Some x → take (suc i) xs ≡ take i xs ++ x ∷ []
take_one_more [] i x is = absurd cc
take_one_more {A} (y ∷ ys) zero x is = ap (λ (z : A). z ∷ []) (same_Some y x is)
take_one_more (y ∷ ys) (suc i) x is = ap (λ zs. y ∷ zs) (take_one_more ys i x is)

-- the nets so far and one more are the front of the path
pub front_more : (path nets : List NetId) (i : ℕ) (d : NetId) → i < length path
    → map number_of nets ≡ take i (reverse (map number_of path))
    → map number_of (nets ++ get_or path (length path - 1 - i) d ∷ []) ≡ take (suc i) (reverse (map number_of path))
front_more path nets i d l so_far =
    let last : NetId = get_or path (length path - 1 - i) d in
    let back : List ℕ = reverse (map number_of path) in
    map-append number_of nets (last ∷ []) ∙ ap (λ xs. xs ++ last.0 ∷ []) so_far ∙ sym (take_one_more back i last.0 (back_at path i d l))

drop_mapped : (k : ℕ) (nets : List NetId) → map number_of (drop k nets) ≡ drop k (map number_of nets)
drop_mapped zero nets = refl
drop_mapped (suc k) [] = refl
drop_mapped (suc k) (n ∷ nets) = drop_mapped k nets

-- no net is less than the one at place k
pub none_is_less : (nets : List NetId) (k : ℕ) → ((j : ℕ) → j < length nets → (get_or nets k no_net).0 ≤ (get_or nets j no_net).0)
    → All (λ b. get_or (map number_of nets) k 0 ≤ b) (map number_of nets)
none_is_less nets k least =
    All-from_get_or (λ b. get_or (map number_of nets) k 0 ≤ b) (map number_of nets) 0 each
  where
    each : (j : ℕ) → j < length (map number_of nets) → get_or (map number_of nets) k 0 ≤ get_or (map number_of nets) j 0
    each j l =
        let one : get_or (map number_of nets) k 0 ≡ (get_or nets k no_net).0 = get_or-map number_of nets k no_net in
        let other : get_or (map number_of nets) j 0 ≡ (get_or nets j no_net).0 = get_or-map number_of nets j no_net in
        omega (arith, one, other, least j (omega (arith, l, length-map nets number_of)))

-- so the list that is turned to it begins with the least net
begins_with_least : (ns : List ℕ) (k : ℕ) → k < length ns → All (λ b. get_or ns k 0 ≤ b) ns → BeginsWithLeast (drop k ns ++ take k ns)
begins_with_least ns k l least =
    let P : ℕ → Type 0 = λ b. get_or ns k 0 ≤ b in
    let rest : AllByRecursion P (drop (k + 1) ns ++ take k ns) =
    recursion_from_All P (drop (k + 1) ns ++ take k ns) (All-append P (drop (k + 1) ns) (take k ns) (All-drop P (k + 1) ns least) (All-take P k ns least)) in
    let Q : List ℕ → Type 0 = λ xs. BeginsWithLeast (xs ++ take k ns) in
    subst Q (sym (drop_more ns k 0 l)) rest

pub turned_nets : (nets turned : List NetId) (k : ℕ) → turned ≡ drop k nets ++ take k nets → k < length nets
    → All (λ b. get_or (map number_of nets) k 0 ≤ b) (map number_of nets) → IsTurned (map number_of nets) (map number_of turned)
turned_nets nets turned k is l least =
    let ns : List ℕ = map number_of nets in
    let e : map number_of turned ≡ drop k ns ++ take k ns =
    ap (map number_of) is ∙ map-append number_of (drop k nets) (take k nets) ∙ ap (λ xs. xs ++ map number_of (take k nets)) (drop_mapped k nets)
    ∙ ap (λ xs. drop k ns ++ xs) (sym (take-map number_of k nets)) in
    (k, e, subst BeginsWithLeast (sym e) (begins_with_least ns k (omega (arith, l, length-map nets number_of)) least))
