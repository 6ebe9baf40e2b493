-- Nets that are there, with their bits, and what their cells compute.
--
-- Read first: Blocks; StandLemmas.
use Rattle.std.proofs.Common.{◌≡◌, ◌+◌, ◌<◌, ◌⊎◌, ℕ, zero, suc, List, [], length, slice_get, Some, refl, ap, subst, ◌∙◌, option_map, arith}
use Rattle.std.proofs.lemmas.Option.{same_Some, slice_get_within, slice_get-map, get_or_from_slice_get}
use Rattle.gos_netlist.specs.Nets.{Function, Cell, pins}
use Rattle.gos_netlist.specs.Cycles.{IsRegister}
use Rattle.gos_netcheck.specs.CellRules.{width_at, widths_of}
use Rattle.gos_macro.specs.Cells.{bit, wide}
use Rattle.gos_expand.specs.Blocks.{Nets, nets_from, token_cells}
use Rattle.gos_expand.proofs.StandLemmas.{Each, StandAt}

-- a net of so many bits, whose cell computes such a function
abbrev pub IsNet : List Cell → (Function → Type 0) → ℕ → ℕ → Type 0
IsNet all G net w = (c : Cell) × (slice_get all net ≡ Some c) × (c.width ≡ w) × G c.gate

-- a register, or what names no net
abbrev pub IsCut : Function → Type 0
IsCut g = IsRegister g ⊎ (pins g ≡ [])

-- whatever it computes
abbrev pub IsAny : Function → Type 0
IsAny g = Unit {0}

pub net_within : (all : List Cell) (G : Function → Type 0) (net w : ℕ) → IsNet all G net w → net < length all
net_within all G net w n = slice_get_within all net n.0 n.1

pub net_width : (all : List Cell) (G : Function → Type 0) (net w : ℕ) → IsNet all G net w → width_at (widths_of all) net ≡ w
net_width all G net w n =
    let read : slice_get (widths_of all) net ≡ Some n.0.width = slice_get-map (λ c. c.width) all net ∙ ap (option_map (λ (c : Cell). c.width)) n.1 in
    get_or_from_slice_get (widths_of all) net n.0.width 0 read ∙ n.2

pub any_net : (all : List Cell) (G : Function → Type 0) (net w : ℕ) → IsNet all G net w → IsNet all IsAny net w
any_net all G net w n = (n.0, n.1, n.2, tt)

-- the nets of a token of so many bits
pub record HasNets (all : List Cell) (G : Function → Type 0) (w : ℕ) (n : Nets) : Type 0 where
  pub of_pulse : IsNet all G n.pulse 1
  pub of_number : 0 < w → IsNet all G n.number w

pub any_nets : (all : List Cell) (G : Function → Type 0) (w : ℕ) (n : Nets) → HasNets all G w n → HasNets all IsAny w n
any_nets all G w n h =
    record { of_pulse = any_net all G n.pulse 1 h.of_pulse; of_number = λ some. any_net all G n.number w (h.of_number some) }

-- the cells of a token give its nets
pub token_nets : (all : List Cell) (G : Function → Type 0) (w b : ℕ) (f g : Function) → StandAt all b (token_cells w f g) → G f → G g
    → HasNets all G w (nets_from w b)
token_nets all G zero b f g stand is_f is_g =
    let e : b + 0 ≡ b = omega arith in
    let here = subst (λ (n : ℕ). slice_get all n ≡ Some (bit f)) e (stand 0 (bit f) refl) in
    record { of_pulse = (bit f, here, refl, is_f); of_number = λ some. absurd (omega (arith, some)) }
token_nets all G (suc w) b f g stand is_f is_g =
    let e : b + 0 ≡ b = omega arith in
    let here = subst (λ (n : ℕ). slice_get all n ≡ Some (bit f)) e (stand 0 (bit f) refl) in
    record { of_pulse = (bit f, here, refl, is_f); of_number = λ some. (wide (suc w) g, stand 1 (wide (suc w) g) refl, refl, is_g) }

-- what holds of a pulse's cell and of its number's holds of the cells of a token
pub each_token : (P : ℕ → Cell → Type 0) (w b : ℕ) (f g : Function) → P b (bit f) → (0 < w → P (b + 1) (wide w g))
    → Each P b (token_cells w f g)
each_token P zero b f g first second zero c h =
    let e : b ≡ b + 0 = omega arith in
    let same : bit f ≡ c = same_Some (bit f) c h in
    subst (λ (d : Cell). P (b + 0) d) same (subst (λ (n : ℕ). P n (bit f)) e first)
each_token P zero b f g first second (suc k) c h = absurd (grind (arith, h))
each_token P (suc w) b f g first second zero c h =
    let e : b ≡ b + 0 = omega arith in
    let same : bit f ≡ c = same_Some (bit f) c h in
    subst (λ (d : Cell). P (b + 0) d) same (subst (λ (n : ℕ). P n (bit f)) e first)
each_token P (suc w) b f g first second (suc zero) c h =
    let same : wide (suc w) g ≡ c = same_Some (wide (suc w) g) c h in
    subst (λ (d : Cell). P (b + 1) d) same (second (omega arith))
each_token P (suc w) b f g first second (suc (suc k)) c h = absurd (grind (arith, h))
