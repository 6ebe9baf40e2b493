-- The cells of a part one by one: what they show, what they name, and what they are where their nets are renamed.
use Rattle.std.proofs.Common.{◌≡◌, ℕ, zero, suc, ◌+◌, ◌<◌, List, [], ◌∷◌, Some, length, map, refl, ◌∙◌, ap, subst, arith}
use Rattle.std.specs.Prelude.{slice_get, Contains}
use Rattle.std.specs.List.{AllByRecursion}
use Rattle.std.specs.Option.{option_map}
use Rattle.std.proofs.lemmas.Option.{slice_get-map, slice_get_within}
use Rattle.gos_netlist.specs.Nets.{Function, Input, Const, Not, And, Or, Xor, Mux, Add, Sub, Eq, Less, Gate, Reg, Cell, pins}
use Rattle.gos_netlist.specs.Settling.{Numbers, at, shown, next_of}
use Rattle.gos_netlist.specs.Cycles.{IsRegister}
use Rattle.gos_netlist.proofs.SettlingLemmas.{same_shown}
use Rattle.gos_plan.specs.Kinds.{Contact}
use Rattle.gos_macro.specs.Gates.{Incoming, Settled}
use Rattle.gos_macro.specs.Fit.{IsKnown, NameEarlier, reach_of}
use Rattle.gos_macro.specs.Paths.{renamed, with_renamed}

-- The values meet the equation of each cell of a region.
abbrev pub Meets : (ℕ → ℕ) → Numbers → ℕ → List Cell → Type 0
Meets v regs b cells = (k : ℕ) (c : Cell) → slice_get cells k ≡ Some c → v (b + k) ≡ shown c.width c.gate (at regs (b + k)) 0 v

-- and the next registers are the values of the cells' pins
abbrev pub Follows : Numbers → Numbers → ℕ → List Cell → Type 0
Follows v after b cells = (k : ℕ) (c : Cell) → slice_get cells k ≡ Some c → at after (b + k) ≡ next_of c.gate v

-- the cell at a place of settled ones
settled_from : (v regs after : Numbers) (b n : ℕ) (cs : List Cell) → Settled v regs after b n cs
    → (k : ℕ) (c : Cell) → slice_get cs k ≡ Some c → at v (b + (n + k)) ≡ shown c.width c.gate (at regs (b + (n + k))) 0 (at v)
settled_from v regs after b n [] settled k c is = absurd (cc is)
settled_from v regs after b n (d ∷ cs) settled zero c is =
    let same : d ≡ c = cc is in
    let here : n ≡ n + 0 = omega arith in
    subst (λ (e : Cell). at v (b + (n + 0)) ≡ shown e.width e.gate (at regs (b + (n + 0))) 0 (at v)) same
    (subst (λ (m : ℕ). at v (b + m) ≡ shown d.width d.gate (at regs (b + m)) 0 (at v)) here settled.0)
settled_from v regs after b n (d ∷ cs) settled (suc k) c is =
    let here : suc n + k ≡ n + suc k = omega arith in
    subst (λ (m : ℕ). at v (b + m) ≡ shown c.width c.gate (at regs (b + m)) 0 (at v)) here (settled_from v regs after b (suc n) cs settled.2 k c is)

pub meets : (v regs after : Numbers) (b : ℕ) (cells : List Cell) → Settled v regs after b 0 cells → Meets (at v) regs b cells
meets v regs after b cells settled k c is =
    let here : 0 + k ≡ k = omega arith in
    subst (λ (m : ℕ). at v (b + m) ≡ shown c.width c.gate (at regs (b + m)) 0 (at v)) here (settled_from v regs after b 0 cells settled k c is)

-- cells settle where each meets its equation
settles_from : (v regs after : Numbers) (b n : ℕ) (cs : List Cell)
    → ((k : ℕ) (c : Cell) → slice_get cs k ≡ Some c → at v (b + (n + k)) ≡ shown c.width c.gate (at regs (b + (n + k))) 0 (at v))
    → ((k : ℕ) (c : Cell) → slice_get cs k ≡ Some c → at after (b + (n + k)) ≡ next_of c.gate v)
    → Settled v regs after b n cs
settles_from v regs after b n [] now next = tt
settles_from v regs after b n (d ∷ cs) now next =
    let here : n + 0 ≡ n = omega arith in (
      subst (λ (m : ℕ). at v (b + m) ≡ shown d.width d.gate (at regs (b + m)) 0 (at v)) here (now 0 d refl),
      subst (λ (m : ℕ). at after (b + m) ≡ next_of d.gate v) here (next 0 d refl),
      settles_from v regs after b (suc n) cs
          (λ k c is. let same : n + suc k ≡ suc n + k = omega arith in
          subst (λ (m : ℕ). at v (b + m) ≡ shown c.width c.gate (at regs (b + m)) 0 (at v)) same (now (suc k) c is))
          (λ k c is. let same : n + suc k ≡ suc n + k = omega arith in subst (λ (m : ℕ). at after (b + m) ≡ next_of c.gate v) same (next (suc k) c is)),
    )

pub settles : (v regs after : Numbers) (b : ℕ) (cells : List Cell) → Meets (at v) regs b cells → Follows v after b cells → Settled v regs after b 0 cells
settles v regs after b cells now next =
    settles_from v regs after b 0 cells
    (λ k c is. let here : k ≡ 0 + k = omega arith in subst (λ (m : ℕ). at v (b + m) ≡ shown c.width c.gate (at regs (b + m)) 0 (at v)) here (now k c is))
    (λ k c is. let here : k ≡ 0 + k = omega arith in subst (λ (m : ℕ). at after (b + m) ≡ next_of c.gate v) here (next k c is))

-- what a cell shows depends on its pins alone, and that of a register on none
pub same_gate : (w r : ℕ) (g : Function) (f h : ℕ → ℕ) → ((IsRegister g → ⊥) → (a : ℕ) → Contains (pins g) a → f a ≡ h a)
    → shown w g r 0 f ≡ shown w g r 0 h
same_gate w r Input f h same = refl
same_gate w r (Const k) f h same = refl
same_gate w r (Not a) f h same = same_shown w r 0 (Not a) f h (same (λ x. cc x.1))
same_gate w r (And a b) f h same = same_shown w r 0 (And a b) f h (same (λ x. cc x.1))
same_gate w r (Or a b) f h same = same_shown w r 0 (Or a b) f h (same (λ x. cc x.1))
same_gate w r (Xor a b) f h same = same_shown w r 0 (Xor a b) f h (same (λ x. cc x.1))
same_gate w r (Mux s a b) f h same = same_shown w r 0 (Mux s a b) f h (same (λ x. cc x.1))
same_gate w r (Add a b) f h same = same_shown w r 0 (Add a b) f h (same (λ x. cc x.1))
same_gate w r (Sub a b) f h same = same_shown w r 0 (Sub a b) f h (same (λ x. cc x.1))
same_gate w r (Eq a b) f h same = same_shown w r 0 (Eq a b) f h (same (λ x. cc x.1))
same_gate w r (Less a b) f h same = same_shown w r 0 (Less a b) f h (same (λ x. cc x.1))
same_gate w r (Gate s a) f h same = same_shown w r 0 (Gate s a) f h (same (λ x. cc x.1))
same_gate w r (Reg a) f h same = refl

-- a register shows what it holds
pub register_shows : (w r : ℕ) (g : Function) (v : ℕ → ℕ) → IsRegister g → shown w g r 0 v ≡ r
register_shows w r g v (a, is) = ap (λ (x : Function). shown w x r 0 v) is

-- a cell of renamed nets shows what the cell does by the values at the new names
renamed_shows : (f : ℕ → ℕ) (w r : ℕ) (g : Function) (v : ℕ → ℕ) → shown w (renamed f g) r 0 v ≡ shown w g r 0 (λ n. v (f n))
renamed_shows f w r Input v = refl
renamed_shows f w r (Const k) v = refl
renamed_shows f w r (Not a) v = refl
renamed_shows f w r (And a b) v = refl
renamed_shows f w r (Or a b) v = refl
renamed_shows f w r (Xor a b) v = refl
renamed_shows f w r (Mux s a b) v = refl
renamed_shows f w r (Add a b) v = refl
renamed_shows f w r (Sub a b) v = refl
renamed_shows f w r (Eq a b) v = refl
renamed_shows f w r (Less a b) v = refl
renamed_shows f w r (Gate s a) v = refl
renamed_shows f w r (Reg a) v = refl

-- so values of renamed cells, taken at the new names, meet the equations of the cells
pub meets_unnamed : (f : ℕ → ℕ) (v : ℕ → ℕ) (regs : Numbers) (b : ℕ) (cells others : List Cell) → others ≡ map (with_renamed f) cells
    → ((k : ℕ) → k < length cells → f (b + k) ≡ b + k)
    → Meets v regs b others → Meets (λ n. v (f n)) regs b cells
meets_unnamed f v regs b cells others same own now k c is =
    ap v (own k (slice_get_within cells k c is))
    ∙ now k (with_renamed f c) (ap (λ (xs : List Cell). slice_get xs k) same ∙ slice_get-map (with_renamed f) cells k ∙ ap (option_map (with_renamed f)) is)
    ∙ renamed_shows f c.width (at regs (b + k)) c.gate v

-- a member of a list all of whose members are so
pub of_all : (P : ℕ → Type 0) (xs : List ℕ) (x : ℕ) → AllByRecursion P xs → Contains xs x → P x
of_all P [] x every (k, less, is) = absurd (omega (arith, less))
of_all P (y ∷ xs) x every (zero, less, is) = subst P is every.0
of_all P (y ∷ xs) x every (suc k, less, is) = of_all P xs x every.1 (k, omega (arith, less), is)

-- a gate that is no register names earlier cells and registers
gate_reach : (g : Function) (n size : ℕ) → (IsRegister g → ⊥) → reach_of g n size ≡ n
gate_reach Input n size none = refl
gate_reach (Const k) n size none = refl
gate_reach (Not a) n size none = refl
gate_reach (And a b) n size none = refl
gate_reach (Or a b) n size none = refl
gate_reach (Xor a b) n size none = refl
gate_reach (Mux s a b) n size none = refl
gate_reach (Add a b) n size none = refl
gate_reach (Sub a b) n size none = refl
gate_reach (Eq a b) n size none = refl
gate_reach (Less a b) n size none = refl
gate_reach (Gate s a) n size none = refl
gate_reach (Reg a) n size none = absurd (none (a, refl))

known_from : (contacts : List Contact) (i : Incoming) (b : ℕ) (cells : List Cell) (n : ℕ) (cs : List Cell) → NameEarlier contacts i b cells n cs
    → (k : ℕ) (c : Cell) → slice_get cs k ≡ Some c → (IsRegister c.gate → ⊥) → (m : ℕ) → Contains (pins c.gate) m → IsKnown contacts i b cells (n + k) m
known_from contacts i b cells n [] order k c is none m named = absurd (cc is)
known_from contacts i b cells n (d ∷ cs) order zero c is none m named =
    let same : d ≡ c = cc is in
    let here : n ≡ n + 0 = omega arith in
    let every = subst (λ (e : Cell). AllByRecursion (IsKnown contacts i b cells (reach_of e.gate n (length cells))) (pins e.gate)) same order.0 in
    subst (λ (x : ℕ). IsKnown contacts i b cells x m) (gate_reach c.gate n (length cells) none ∙ here) (of_all (IsKnown contacts i b cells (reach_of c.gate n (length cells))) (pins c.gate) m every named)
known_from contacts i b cells n (d ∷ cs) order (suc k) c is none m named =
    let here : suc n + k ≡ n + suc k = omega arith in
    subst (λ (x : ℕ). IsKnown contacts i b cells x m) here (known_from contacts i b cells (suc n) cs order.1 k c is none m named)

-- each pin of a gate comes in, or is that of an earlier cell or of a register
pub known : (contacts : List Contact) (i : Incoming) (b : ℕ) (cells : List Cell) → NameEarlier contacts i b cells 0 cells
    → (k : ℕ) (c : Cell) → slice_get cells k ≡ Some c → (IsRegister c.gate → ⊥) → (m : ℕ) → Contains (pins c.gate) m → IsKnown contacts i b cells k m
known contacts i b cells order k c is none m named =
    let here : 0 + k ≡ k = omega arith in
    subst (λ (x : ℕ). IsKnown contacts i b cells x m) here (known_from contacts i b cells 0 cells order k c is none m named)
