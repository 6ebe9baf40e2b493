-- The gates of a part are causal.
--
-- A net in which the two settlings differ stands behind one that comes in and was left out. So it goes out at no handshake
-- that hears all.
use Rattle.std.proofs.Common.{◌≡◌, inl, inr, ◌⊎◌, ℕ, ◌+◌, ◌-◌, ◌<◌, suc, Bool, true, false, List, ◌++◌, Option, Some, length, refl, sym, ◌∙◌, ap, subst, arith}
use Rattle.std.specs.Prelude.{slice_get}
use Rattle.std.proofs.lemmas.Option.{slice_get_within}
use Rattle.gos_netlist.specs.Nets.{Cell}
use Rattle.gos_netlist.specs.Settling.{Numbers, at}
use Rattle.gos_plan.specs.Kinds.{Part, part_contacts}
use Rattle.gos_plan.specs.Firing.{State, Token}
use Rattle.gos_macro.specs.Gates.{Incoming, Outgoing, pulse_in, is_among, ShowOneAt, ShowOne}
use Rattle.gos_plan.specs.Firings.{due, value_due}
use Rattle.gos_macro.specs.Law.{Order}
use Rattle.gos_macro.specs.Kept.{KeepLaws}
use Rattle.gos_macro.specs.Paths.{Path, IsIn, IsOut, KeepPaths}
use Rattle.gos_macro.specs.causal.Causal.{Set, all, HearsAll, FollowRows, CausalLaw, LateIsUnseen, AreCausal}
use Rattle.gos_macro.proofs.causal.CellLemmas.{meets}
use Rattle.gos_macro.proofs.causal.SpreadLemmas.{of_pulse, of_value}
use Rattle.gos_macro.proofs.causal.AgreeLemmas.{Both, agree}
use Rattle.gos_macro.proofs.causal.OutLemmas.{goes_out, is_own, same_nets}
use Rattle.gos_macro.proofs.causal.PartedLemmas.{Cycle, shakes, wires, back, values, Parted, parted}
use Rattle.gos_macro.proofs.causal.LessLemmas.{less_pulse, less_number, counted, less_shows}

-- At a wire the settlings agree, or no path leads from it to a handshake that hears all.
at_wire : (k : Part) (cells : ℕ → Incoming → List Cell) (outs : ℕ → List Outgoing) (late : List ℕ) (passing : ℕ → ℕ → Bool) (b : ℕ) (i : Incoming) (v regs after : Numbers)
    → Cycle k cells outs late passing b i v regs after → (inside : Set) → (x : Parted k cells late b i v regs inside)
    → (to : ℕ) → to < shakes k → HearsAll k passing inside to → (z : ℕ) → IsOut (slice_get (outs b) to) z
    → (h net : ℕ) → h < shakes k → IsIn (part_contacts k) (wires k cells b i) h net
    → (at v (back k cells b i net) ≡ at x.less.now net) ⊎ ((ns : List ℕ) → Path b (cells b (wires k cells b i)) net ns z → ⊥)
at_wire k cells outs late passing b i v regs after y inside x to near hears z out h net small come = by_pass (passing h to) refl
  where
    early : passing h to ≡ true → is_among late h ≡ true → ⊥
    early passes waits = cc (passes, y.paths.waits h to small near waits)

    same : passing h to ≡ true → IsIn (part_contacts k) (wires k cells b i) h net → at v (back k cells b i net) ≡ at x.less.now net
    same passes (inl is) =
        subst (λ (n : ℕ). at v (back k cells b i n) ≡ at x.less.now n) (sym is)
        (ap (at v) (of_pulse (b + length (cells b i)) (shakes k) i.pulse i.value (λ n. n - b + b) h small)
        ∙ (counted (is_among late h) (inside h) (pulse_in v i h) (early passes) (hears h small passes) ∙ sym (less_pulse k cells late b i v regs inside x h small)))
    same passes (inr is) =
        subst (λ (n : ℕ). at v (back k cells b i n) ≡ at x.less.now n) (sym is.1)
        (ap (at v) (of_value (b + length (cells b i)) (shakes k) i.pulse i.value (λ n. n - b + b) h small)
        ∙ (counted (is_among late h) (inside h) (values v i h) (early passes) (hears h small passes) ∙ sym (less_number k cells late b i v regs inside x h is.0)))

    by_pass : (t : Bool) → passing h to ≡ t
        → (at v (back k cells b i net) ≡ at x.less.now net) ⊎ ((ns : List ℕ) → Path b (cells b (wires k cells b i)) net ns z → ⊥)
    by_pass true passes = inl (same passes come)
    by_pass false stops =
        inr (λ ns path. cc ((y.paths.exact h to small near b (wires k cells b i) x.apart).1 (net, z, ns, come, out, path), stops))

-- So they agree at the nets that go out there.
at_out : (k : Part) (cells : ℕ → Incoming → List Cell) (outs : ℕ → List Outgoing) (late : List ℕ) (passing : ℕ → ℕ → Bool) (b : ℕ) (i : Incoming) (v regs after : Numbers)
    → Cycle k cells outs late passing b i v regs after → (inside : Set) → (x : Parted k cells late b i v regs inside)
    → (to : ℕ) → HearsAll k passing inside to → (o : Outgoing) → slice_get (outs b) to ≡ Some o → (z : ℕ) → IsOut (Some o) z
    → at v z ≡ at x.less.now z
at_out k cells outs late passing b i v regs after y inside x to hears o is z out =
    let here = cells b (wires k cells b i) in
    let goes = goes_out b here (part_contacts k) (outs b) (y.fits.outgoing b (wires k cells b i)) to o is in
    let net = is_own b here goes.1 o goes.2 z out in
    let there = subst (λ (r : Option Outgoing). IsOut r z) (sym is) out in
    let both : Both (part_contacts k) b (wires k cells b i) here regs (λ n. at v (back k cells b i n)) (at x.less.now) z =
    record {
      order = y.fits.order b (wires k cells b i);
      one = x.whole;
      other = meets x.less.now regs x.less.after b here x.less.settled;
      inputs = at_wire k cells outs late passing b i v regs after y inside x to goes.0 hears z there;
    } in
    let place : ℕ = net.1.0 in
    let same = agree (part_contacts k) b (wires k cells b i) here regs (λ n. at v (back k cells b i n)) (at x.less.now) z both (suc place) place net.1.1 (omega arith) net.1.3 (inl (sym net.1.2)) in
    subst (λ (n : ℕ). at v n ≡ at x.less.now n) (sym net.1.2) (ap (at v) (sym (x.own place (slice_get_within here place net.1.1 net.1.3))) ∙ same)

shows_partly : (k : Part) (cells : ℕ → Incoming → List Cell) (outs : ℕ → List Outgoing) (late : List ℕ) (passing : ℕ → ℕ → Bool) (b : ℕ) (i : Incoming) (v regs after : Numbers)
    → Cycle k cells outs late passing b i v regs after → (inside : Set) → Parted k cells late b i v regs inside → (ts : List Token)
    → ((x : Parted k cells late b i v regs inside) → ShowOne x.less.now (outs b) ts)
    → (to : ℕ) → HearsAll k passing inside to → ShowOneAt v (outs b) ts to
shows_partly k cells outs late passing b i v regs after y inside x ts less_show to hears o is alone =
    same_nets v x.less.now o (due to ts) (value_due to ts) (at_out k cells outs late passing b i v regs after y inside x to hears o is) (less_show x to o is alone)

-- Gates that follow the rows of their part show what some firings put, where a handshake hears all by them.
pub causal : CausalLaw
causal k cells outs late rank passing fits paths b regs q pending follow i v after inside s ts settled range fired =
    let y : Cycle k cells outs late passing b i v regs after = record { fits = fits; paths = paths; settled = settled } in
    shows_partly k cells outs late passing b i v regs after y inside (parted k cells outs late passing b i v regs after y inside) (pending ++ ts)
    (λ x. less_shows k cells outs late rank b i v regs inside q s pending ts follow x range fired)

-- They show what the early firings put, whatever comes in late.
pub late_is_unseen : LateIsUnseen
late_is_unseen k cells outs late rank passing fits paths b regs q pending follow i v after s ts settled range fired =
    λ to. causal k cells outs late rank passing fits paths b regs q pending follow i v after all s ts settled range fired to (λ from small passes. refl)

-- gates that keep the law follow the rows from registers that stand for a state
pub follow_rows : (k : Part) (cells : ℕ → Incoming → List Cell) (outs : ℕ → List Outgoing) (late : List ℕ) (pending : ℕ → Numbers → List Token)
    → (stands : ℕ → Numbers → State → Type 0) (rank : Order) → KeepLaws k cells outs late pending stands rank → (b : ℕ) (regs : Numbers) (q : State) → stands b regs q
    → FollowRows k cells outs late rank b regs q (pending b regs)
follow_rows k cells outs late pending stands rank keep b regs q at_state i v after s ts us settled pulses fit fired =
    (keep.law b i v regs after q s ts us settled pulses fit at_state fired).0

-- so they are causal
pub are_causal : (k : Part) (cells : ℕ → Incoming → List Cell) (outs : ℕ → List Outgoing) (late : List ℕ) (pending : ℕ → Numbers → List Token)
    → (stands : ℕ → Numbers → State → Type 0) (rank : Order) (passing : ℕ → ℕ → Bool) → KeepLaws k cells outs late pending stands rank → KeepPaths k cells outs late passing
    → AreCausal k cells outs late pending stands rank passing
are_causal k cells outs late pending stands rank passing keep paths =
    record {
      partly = λ b regs q at_state. causal k cells outs late rank passing keep.fits paths b regs q (pending b regs) (follow_rows k cells outs late pending stands rank keep b regs q at_state);
      early = λ b regs q at_state. late_is_unseen k cells outs late rank passing keep.fits paths b regs q (pending b regs) (follow_rows k cells outs late pending stands rank keep b regs q at_state);
    }
