-- What goes out of a Share comes from registers, or from what may pass.
--
-- Read first: Cones, Pairs, Own.
use Rattle.std.proofs.Common.{◌≡◌, inl, inr, ℕ, zero, suc, ◌+◌, Bool, true, List, [], ◌∷◌, ◌++◌, Some, refl, sym, subst, arith}
use Rattle.std.specs.Prelude.{◌<◌, length, slice_get}
use Rattle.std.specs.List.{AllByRecursion}
use Rattle.std.proofs.lemmas.Option.{slice_get_within}
use Rattle.gos_types.specs.declared.shakes.Role.{Role}
use Rattle.gos_types.specs.declared.shakes.Role.TheVariants.{Serve, Ask}
use Rattle.gos_netlist.specs.Nets.{Cell, pins}
use Rattle.gos_netlist.specs.Cycles.{IsRegister}
use Rattle.gos_plan.specs.Kinds.{Contact}
use Rattle.gos_macro.specs.Gates.{Incoming, Outgoing, bits_in}
use Rattle.gos_macro.specs.Paths.{IsOut, AreApart, LeadsOn}
use Rattle.gos_macro.specs.laws.StandingCells.{StandAt, stand_left, stand_right}
use Rattle.gos_share.specs.Blocks.{outgoing, asked_cells, asked_size, answered_cells, sent_cells, sent_size, told_cells, block_cells, block_size, kept_net, source_out, caller_out}
use Rattle.gos_share.specs.Share.{row_cells, share_cells, source_outs, caller_outs, share_outs, share_passing}
use Rattle.gos_share.specs.laws.Slots.{bits_there}
use Rattle.gos_share.specs.laws.Comes.{sides, IsPlaced, ArePlaced, all_placed}
use Rattle.gos_share.specs.laws.Row.{block_length}
use Rattle.gos_share.specs.laws.Keeping.{source_length, caller_length}
use Rattle.gos_share.specs.laws.Own.{serve_parts, ask_parts, row_stands}
use Rattle.gos_share.specs.laws.Cones.{OnlyFrom, comes_alone, comes_by_pins}
use Rattle.gos_share.specs.laws.Pairs.{AtPairs, AtAllPairs, Passes, all_pass}

-- Facts of nets that a cell's net has where its pins have them; a register's net has them.
abbrev pub GoesOn : ℕ → List Cell → (ℕ → Type 0) → Type 0
GoesOn b all P = (k : ℕ) (c : Cell) → slice_get all k ≡ Some c → ((IsRegister c.gate → ⊥) → AllByRecursion P (pins c.gate)) → P (b + k)

-- the fact holds of what comes in at a handshake with w bits, and of what goes out
abbrev pub OfSide : (ℕ → Type 0) → Incoming → ℕ → ℕ → Type 0
OfSide P i w e = P (i.pulse e) × (0 < w → P (i.value e))

abbrev pub OfOut : (ℕ → Type 0) → Outgoing → Type 0
OfOut P o = (z : ℕ) → IsOut (Some o) z → P z

pub of_outgoing : (P : ℕ → Type 0) (w p a : ℕ) → P p → (0 < w → P a) → OfOut P (outgoing w p a)
of_outgoing P zero p a pulse value z is = subst P (sym is) pulse
of_outgoing P (suc w) p a pulse value z (inl is) = subst P (sym is) pulse
of_outgoing P (suc w) p a pulse value z (inr is) = subst P (sym is) (value (omega arith))

-- a request of the callers comes from registers
asked_from : (P : ℕ → Type 0) (w : ℕ) (i : Incoming) (h j b n : ℕ) (all : List Cell) → GoesOn b all P → StandAt all n (asked_cells w i h j b n)
    → OfOut P (outgoing w (b + (n + 1)) (b + (n + 4)))
asked_from P zero i h j b n all goes stand =
    of_outgoing P zero (b + (n + 1)) (b + (n + 4)) (goes (n + 1) _ (stand 1 _ refl) (λ none. absurd (none (_, refl)))) (λ some. absurd (omega (arith, some)))
asked_from P (suc w) i h j b n all goes stand =
    let pulse : P (b + (n + 1)) = goes (n + 1) _ (stand 1 _ refl) (λ none. absurd (none (_, refl))) in
    let held : P (b + (n + 3)) = goes (n + 3) _ (stand 3 _ refl) (λ none. absurd (none (_, refl))) in
    of_outgoing P (suc w) (b + (n + 1)) (b + (n + 4)) pulse (λ some. goes (n + 4) _ (stand 4 _ refl) (λ none. (pulse, (held, tt))))

-- an answer of the source comes from it, and from the branch
answered_first : (P : ℕ → Type 0) (w : ℕ) (i : Incoming) (j b n : ℕ) (all : List Cell) → GoesOn b all P → P (b + 1) → OfSide P i w j
    → StandAt all n (answered_cells w i j b n) → OfOut P (outgoing w (b + (n + 0)) (b + (n + 2)))
answered_first P zero i j b n all goes branch source stand =
    of_outgoing P zero (b + (n + 0)) (b + (n + 2)) (goes (n + 0) _ (stand 0 _ refl) (λ none. (source.0, (branch, tt)))) (λ some. absurd (omega (arith, some)))
answered_first P (suc w) i j b n all goes branch source stand =
    let pulse : P (b + (n + 0)) = goes (n + 0) _ (stand 0 _ refl) (λ none. (source.0, (branch, tt))) in
    of_outgoing P (suc w) (b + (n + 0)) (b + (n + 2)) pulse (λ some. goes (n + 2) _ (stand 2 _ refl) (λ none. (pulse, (source.1 some, tt))))

answered_second : (P : ℕ → Type 0) (w : ℕ) (i : Incoming) (j b n : ℕ) (all : List Cell) → GoesOn b all P → P (b + 0) → OfSide P i w j
    → StandAt all n (answered_cells w i j b n) → OfOut P (outgoing w (b + (n + 1)) (b + (n + 3)))
answered_second P zero i j b n all goes branch source stand =
    of_outgoing P zero (b + (n + 1)) (b + (n + 3)) (goes (n + 1) _ (stand 1 _ refl) (λ none. (source.0, (branch, tt)))) (λ some. absurd (omega (arith, some)))
answered_second P (suc w) i j b n all goes branch source stand =
    let pulse : P (b + (n + 1)) = goes (n + 1) _ (stand 1 _ refl) (λ none. (source.0, (branch, tt))) in
    of_outgoing P (suc w) (b + (n + 1)) (b + (n + 3)) pulse (λ some. goes (n + 3) _ (stand 3 _ refl) (λ none. (pulse, (source.1 some, tt))))

-- a request of the source comes from registers
sent_first : (P : ℕ → Type 0) (w : ℕ) (i : Incoming) (j b n : ℕ) (all : List Cell) → GoesOn b all P → StandAt all n (sent_cells w i j b n)
    → OfOut P (outgoing w (b + (n + 2)) (b + (n + 5)))
sent_first P zero i j b n all goes stand =
    of_outgoing P zero (b + (n + 2)) (b + (n + 5)) (goes (n + 2) _ (stand 2 _ refl) (λ none. absurd (none (_, refl)))) (λ some. absurd (omega (arith, some)))
sent_first P (suc w) i j b n all goes stand =
    let pulse : P (b + (n + 2)) = goes (n + 2) _ (stand 2 _ refl) (λ none. absurd (none (_, refl))) in
    let held : P (b + (n + 4)) = goes (n + 4) _ (stand 4 _ refl) (λ none. absurd (none (_, refl))) in
    of_outgoing P (suc w) (b + (n + 2)) (b + (n + 5)) pulse (λ some. goes (n + 5) _ (stand 5 _ refl) (λ none. (pulse, (held, tt))))

sent_second : (P : ℕ → Type 0) (w : ℕ) (i : Incoming) (j b n : ℕ) (all : List Cell) → GoesOn b all P → StandAt all n (sent_cells w i j b n)
    → OfOut P (outgoing w (b + (n + 3)) (b + (n + 6)))
sent_second P zero i j b n all goes stand =
    of_outgoing P zero (b + (n + 3)) (b + (n + 6)) (goes (n + 3) _ (stand 3 _ refl) (λ none. absurd (none (_, refl)))) (λ some. absurd (omega (arith, some)))
sent_second P (suc w) i j b n all goes stand =
    let pulse : P (b + (n + 3)) = goes (n + 3) _ (stand 3 _ refl) (λ none. absurd (none (_, refl))) in
    let held : P (b + (n + 4)) = goes (n + 4) _ (stand 4 _ refl) (λ none. absurd (none (_, refl))) in
    of_outgoing P (suc w) (b + (n + 3)) (b + (n + 6)) pulse (λ some. goes (n + 6) _ (stand 6 _ refl) (λ none. (pulse, (held, tt))))

-- an answer of the callers comes from both of them
pub told_from : (P : ℕ → Type 0) (w : ℕ) (i : Incoming) (h j b n : ℕ) (all : List Cell) → GoesOn b all P → OfSide P i w (h + j) → OfSide P i w (h + h + j)
    → StandAt all n (told_cells w i h j b n) → OfOut P (outgoing w (b + (n + 0)) (b + (n + 2)))
told_from P zero i h j b n all goes first second stand =
    of_outgoing P zero (b + (n + 0)) (b + (n + 2)) (goes (n + 0) _ (stand 0 _ refl) (λ none. (first.0, (second.0, tt)))) (λ some. absurd (omega (arith, some)))
told_from P (suc w) i h j b n all goes first second stand =
    let pulse : P (b + (n + 0)) = goes (n + 0) _ (stand 0 _ refl) (λ none. (first.0, (second.0, tt))) in
    let some : 0 < suc w = omega arith in
    let number : P (b + (n + 1)) = goes (n + 1) _ (stand 1 _ refl) (λ none. (second.0, (second.1 some, (first.1 some, tt)))) in
    of_outgoing P (suc w) (b + (n + 0)) (b + (n + 2)) pulse (λ _. goes (n + 2) _ (stand 2 _ refl) (λ none. (pulse, (number, tt))))

-- For each handshake a fact of nets: it goes on, and holds of the branch.
record Kept (P : ℕ → ℕ → Type 0) (b : ℕ) (all : List Cell) : Type 0 where
  pub goes : (e : ℕ) → GoesOn b all (P e)
  pub branch : (e : ℕ) → P e (b + 0)
  pub no_branch : (e : ℕ) → P e (b + 1)

-- what may pass from one handshake to another has the fact of the other one
abbrev OfNets : (ℕ → ℕ → Type 0) → Incoming → ℕ → ℕ → ℕ → Type 0
OfNets P i w from to = OfSide (P to) i w from

block_from : (P : ℕ → ℕ → Type 0) (r : Role) (q a : ℕ) (i : Incoming) (h j b n c d : ℕ) (all : List Cell) → Kept P b all → AtPairs (OfNets P i a) r h j
    → StandAt all n (block_cells r q a i h j b n c d)
    → OfOut (P j) (source_out r q a b n) × OfOut (P (h + j)) (caller_out 0 r q a b n) × OfOut (P (h + h + j)) (caller_out 1 r q a b n)
block_from P Serve q a i h j b n c d all kept nets stand =
    let parts = serve_parts q a i h j b n c d all stand in (
      asked_from (P j) q i h j b (n + 2) all (kept.goes j) parts.1,
      answered_first (P (h + j)) a i j b (n + 2 + asked_size q) all (kept.goes (h + j)) (kept.no_branch (h + j)) nets.0 parts.2,
      answered_second (P (h + h + j)) a i j b (n + 2 + asked_size q) all (kept.goes (h + h + j)) (kept.branch (h + h + j)) nets.1 parts.2,
    )
block_from P Ask q a i h j b n c d all kept nets stand =
    let parts = ask_parts q a i h j b n c d all stand in (
      told_from (P j) a i h j b (n + sent_size q) all (kept.goes j) nets.0 nets.1 parts.1,
      sent_first (P (h + j)) q i j b n all (kept.goes (h + j)) parts.0,
      sent_second (P (h + h + j)) q i j b n all (kept.goes (h + h + j)) parts.0,
    )

-- the facts hold of what goes out, from handshake e on
abbrev pub AllOfOut : (ℕ → ℕ → Type 0) → ℕ → List Outgoing → Type 0
AllOfOut P e [] = Unit {0}
AllOfOut P e (o ∷ os) = OfOut (P e) o × AllOfOut P (suc e) os

-- the fact of a handshake holds of what comes in where it may pass
abbrev OfIncoming : (ℕ → ℕ → Type 0) → List Contact → Incoming → (ℕ → ℕ → Bool) → Type 0
OfIncoming P contacts i passing =
    (from to : ℕ) (k : Contact) → Passes passing from to → slice_get contacts from ≡ Some k → OfSide (P to) i (bits_in k.role k) from

row_from : (P : ℕ → ℕ → Type 0) (ls : List Contact) (passing : ℕ → ℕ → Bool) (i : Incoming) (j e1 e2 b n c d : ℕ) (all : List Cell)
    (ks : List Contact) → Kept P b all → OfIncoming P (sides ls) i passing
    → e1 ≡ length ls + j → e2 ≡ length ls + length ls + j → AtAllPairs (Passes passing) (length ls) j ks → ArePlaced ls j ks
    → StandAt all n (row_cells i (length ls) j b n c d ks)
    → AllOfOut P j (source_outs b n ks) × AllOfOut P e1 (caller_outs 0 b n ks) × AllOfOut P e2 (caller_outs 1 b n ks)
row_from P ls passing i j e1 e2 b n c d all [] kept nets is1 is2 pass placed stand = (tt, tt, tt)
row_from P ls passing i j e1 e2 b n c d all (k ∷ ks) kept nets is1 is2 pass placed stand =
    let q = k.ask_bits in
    let a = k.answer_bits in
    let h = length ls in
    let size = block_size k.role q a in
    let next_c = kept_net k.role (b + (n + 0)) c in
    let next_d = kept_net k.role (b + (n + 1)) d in
    let block = block_cells k.role q a i h j b n c d in
    let row = row_cells i h (suc j) b (n + size) next_c next_d ks in
    let here = block_from P k.role q a i h j b n c d all kept (by_role k.role q a pass.0 placed.0) (stand_left all n block row stand) in
    let rest = row_from P ls passing i (suc j) (suc e1) (suc e2) b (n + size) next_c next_d all ks kept nets
    (omega (arith, is1)) (omega (arith, is2)) pass.1 placed.1
    (stand_right all n size block row (block_length k.role q a i h j b n c d) stand) in (
      (here.0, rest.0),
      (subst (λ (e : ℕ). OfOut (P e) (caller_out 0 k.role q a b n)) (sym is1) here.1, rest.1),
      (subst (λ (e : ℕ). OfOut (P e) (caller_out 1 k.role q a b n)) (sym is2) here.2, rest.2),
    )
  where
    by_role : (r : Role) (q a : ℕ) → AtPairs (Passes passing) r (length ls) j → IsPlaced ls (record { role = r; ask_bits = q; answer_bits = a }) j
        → AtPairs (OfNets P i a) r (length ls) j
    by_role Serve q a passes here = (nets j (length ls + j) _ passes.0 here.source, nets j (length ls + length ls + j) _ passes.1 here.source)
    by_role Ask q a passes here = (nets (length ls + j) j _ passes.0 here.first, nets (length ls + length ls + j) j _ passes.1 here.second)

pub out_both : (P : ℕ → ℕ → Type 0) (e d : ℕ) (os qs : List Outgoing) → d ≡ e + length os → AllOfOut P e os → AllOfOut P d qs → AllOfOut P e (os ++ qs)
out_both P e d [] qs is first second = let here : d ≡ e = omega (arith, is) in subst (λ (m : ℕ). AllOfOut P m qs) here second
out_both P e d (o ∷ os) qs is first second = (first.0, out_both P (suc e) d os qs (omega (arith, is)) first.1 second)

pub out_at : (P : ℕ → ℕ → Type 0) (e m d z : ℕ) (os : List Outgoing) → d ≡ e + m → AllOfOut P e os → IsOut (slice_get os m) z → P d z
out_at P e m d z [] is every out = absurd out
out_at P e zero d z (o ∷ os) is every out = let here : d ≡ e = omega (arith, is) in subst (λ (x : ℕ). P x z) (sym here) (every.0 z out)
out_at P e (suc m) d z (o ∷ os) is every out = out_at P (suc e) m d z os (omega (arith, is)) every.1 out

-- a path leads only from where the table says
pub share_from : (b : ℕ) (i : Incoming) (ks : List Contact) (from to : ℕ) → AreApart (sides ks) b (length (share_cells ks b i)) i → from < length (sides ks)
    → LeadsOn (sides ks) b i (share_cells ks b i) (share_outs ks b) from to → share_passing ks from to ≡ true
share_from b i ks from to apart low (m, z, ns, comes, out, path) =
    out_at P 0 to to z (share_outs ks b) (omega arith) every out from m low comes (inr (ns, path))
  where
    all : List Cell
    all = share_cells ks b i

    h : ℕ
    h = length ks

    P : ℕ → ℕ → Type 0
    P e = OnlyFrom (sides ks) b i all (λ d. share_passing ks d e ≡ true)

    goes : (e : ℕ) → GoesOn b all (P e)
    goes e k c there = comes_by_pins (sides ks) b i all (λ d. share_passing ks d e ≡ true) k c apart there

    branch : (e : ℕ) → P e (b + 0)
    branch e = goes e 0 _ refl (λ none. absurd (none (_, refl)))

    nets : OfIncoming P (sides ks) i (share_passing ks)
    nets d e k passes there =
        let within = slice_get_within (sides ks) d k there in
        let bits = bits_there d (sides ks) k there in (
          comes_alone (sides ks) b i all (λ x. share_passing ks x e ≡ true) d (i.pulse d) apart within (inl refl) passes,
          λ some. comes_alone (sides ks) b i all (λ x. share_passing ks x e ≡ true) d (i.value d) apart within (inr (omega (arith, some, bits), refl)) passes,
        )

    kept : Kept P b all
    kept = record { goes = goes; branch = branch; no_branch = λ e. goes e 1 _ refl (λ none. (branch e, tt)) }

    every : AllOfOut P 0 (share_outs ks b)
    every =
        let known = row_from P ks (share_passing ks) i 0 h (h + h) b 3 (b + 0) (b + 2) all ks kept nets
        (omega arith) (omega arith) (all_pass ks) (all_placed ks) (row_stands b i ks) in
        let one = source_length b 3 ks in
        let two = caller_length 0 b 3 ks in
        out_both P 0 h (source_outs b 3 ks) (caller_outs 0 b 3 ks ++ caller_outs 1 b 3 ks) (omega (arith, one)) known.0
        (out_both P h (h + h) (caller_outs 0 b 3 ks) (caller_outs 1 b 3 ks) (omega (arith, two)) known.1 known.2)
