-- The nets that go out at a side, filled in one handshake after another.
use Rattle.std.proofs.Common.{◌≡◌, ℕ, zero, suc, ◌+◌, ◌≤◌, List, [], ◌∷◌, ◌++◌, refl, sym, ◌∙◌, ap, subst, arith}
use Rattle.std.specs.Prelude.{◌<◌, length, take, slice_set}
use Rattle.std.proofs.lemmas.List.{take_more_set}
use Rattle.gos_types.specs.declared.types.Ty.{Ty}
use Rattle.gos_plan.specs.Kinds.{Contact}
use Rattle.gos_macro.specs.Gates.{Outgoing}
use Rattle.gos_macro.specs.declared.gates.Wire.{Wire}
use Rattle.gos_macro.specs.Wires.{HoldsNets, HoldNets}
use Rattle.gos_share.specs.declared.shared.Shared.{Shared}
use Rattle.gos_fast_share.specs.Fast.{block_size}
use Rattle.gos_fast_share.specs.inner.Seen.{contact_of, from, all_of, side_out, side_outs}
use Rattle.gos_fast_share.specs.declared.sides.Side.{Side}

behind_one : (xs : List Wire) (w : Wire) (ys : List Wire) → (xs ++ w ∷ []) ++ ys ≡ xs ++ (w ∷ ys)
behind_one [] w ys = refl
behind_one (x ∷ xs) w ys = ap (λ (zs : List Wire). x ∷ zs) (behind_one xs w ys)

-- what holds the nets of all, where those from handshake j on are to come
abbrev pub Holding : Side → ℕ → ℕ → ℕ → ℕ → Ty → List Wire → Type 0
Holding side b start n j t ws =
    (behind : List Wire) → HoldNets (side_outs side b n (from j t)) behind → HoldNets (side_outs side b start (all_of t)) (take j ws ++ behind)

pub one_more : (side : Side) (b start n j : ℕ) (t : Ty) (k : Shared) (ws : List Wire) (w : Wire) (o : Outgoing) → from j t ≡ contact_of k ∷ from (j + 1) t
    → HoldsNets o w → o ≡ side_out side k.role k.ask_bits k.answer_bits b n → j < length ws → Holding side b start n j t ws
    → Holding side b start (n + block_size k.role k.ask_bits k.answer_bits) (j + 1) t (slice_set ws j w)
one_more side b start n j t k ws w o there holds is low all behind rest =
    let both : HoldNets (side_outs side b n (contact_of k ∷ from (j + 1) t)) (w ∷ behind) = (subst (λ (q : Outgoing). HoldsNets q w) is holds, rest) in
    let known = all (w ∷ behind) (subst (λ (ks : List Contact). HoldNets (side_outs side b n ks) (w ∷ behind)) (sym there) both) in
    let same : take j ws ++ (w ∷ behind) ≡ take (j + 1) (slice_set ws j w) ++ behind = sym (ap (λ (xs : List Wire). xs ++ behind) (take_more_set ws j w low) ∙ behind_one (take j ws) w behind) in
    subst (λ (xs : List Wire). HoldNets (side_outs side b start (all_of t)) xs) same known

no_contact : (ks : List Contact) → length ks ≡ 0 → ks ≡ []
no_contact [] none = refl
no_contact (k ∷ ks) none = absurd (omega (arith, none))

all_taken : (ws : List Wire) (j : ℕ) → length ws ≤ j → take j ws ++ [] ≡ ws
all_taken [] zero long = refl
all_taken [] (suc j) long = refl
all_taken (w ∷ ws) zero long = absurd (omega (arith, long))
all_taken (w ∷ ws) (suc j) long = ap (λ (zs : List Wire). w ∷ zs) (all_taken ws j (omega (arith, long)))

pub all_held : (side : Side) (b start n j : ℕ) (t : Ty) (ws : List Wire) → length ws ≤ j → j + length (from j t) ≡ length (all_of t) → length ws ≡ length (all_of t)
    → Holding side b start n j t ws → HoldNets (side_outs side b start (all_of t)) ws
all_held side b start n j t ws long count same all =
    let none : from j t ≡ [] = no_contact (from j t) (omega (arith, long, count, same)) in
    let known = all [] (subst (λ (ks : List Contact). HoldNets (side_outs side b n ks) []) (sym none) tt) in
    subst (λ (xs : List Wire). HoldNets (side_outs side b start (all_of t)) xs) (all_taken ws j long) known
