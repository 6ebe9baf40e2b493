-- No number leaves or arrives at an end without its pulse, where the inputs are clean: so outputs are silent.
--
-- Read first: Silence of gos_pace, StaySilent in Law of gos_macro; BitLemmas. The gates of a part let a number through by its
-- pulse. What registers hold was put there with a pulse, and what no register holds passes on as it is.
use Rattle.std.specs.Prelude.{Option, None}
use Rattle.std.proofs.Common.{◌≡◌, ℕ, zero, suc, ◌≤◌, ◌<◌, Bool, true, false, List, [], ◌∷◌, Some, slice_get, refl, sym, ◌∙◌, ap, subst, arith}
use Rattle.gos_netlist.specs.Nets.{Netlist}
use Rattle.gos_types.specs.Events.{Direction}
use Rattle.gos_netlist.specs.Settling.{Numbers, at}
use Rattle.gos_plan.specs.Kinds.{Part, Contact, part_contacts}
use Rattle.gos_plan.specs.Plans.{End, PartEnd, ImportEnd, ResultEnd, Joint, Plan, IsRight, contact_at}
use Rattle.gos_plan.specs.Tokens.{IsPortEnd, places_of, way_taken}
use Rattle.gos_plan.proofs.JointLemmas.{fits}
use Rattle.gos_macro.specs.Gates.{Incoming, Outgoing, Bare, Bearing}
use Rattle.gos_macro.specs.Fit.{GoesOut}
use Rattle.gos_macro.specs.Law.{AreSilent, PulsesComeIn}
use Rattle.gos_expand.specs.Gates.{layout, outs_of}
use Rattle.gos_expand.specs.Blocks.{Nets}
use Rattle.gos_expand.specs.Starts.{Laying, bits_taken}
use Rattle.gos_expand.specs.Laid.{nets_out}
use Rattle.gos_expand.specs.Facts.{Places, source, target, width, bits_put, incoming_at, CycleFacts, PlanFacts, PartFacts}
use Rattle.gos_expand.proofs.TallyLemmas.{outgoing_at}
use Rattle.gos_expand.proofs.StandingLemmas.{Ends, ends_of, Taking, taking, is_in_at}
use Rattle.gos_expand.proofs.DueLemmas.{pulse_shape}
use Rattle.gos_expand.proofs.PossibleLemmas.{there_is}
use Rattle.gos_expand.proofs.CauseLemmas.{own_contact, end_contact, part_there, bits_out_put}

-- the number of these nets is 0 where their pulse is
abbrev pub IsSilent : Numbers → Nets → Type 0
IsSilent v n = at v n.pulse ≡ 0 → at v n.number ≡ 0

-- what goes out at one handshake of a part
abbrev GoesSilent : Numbers → Outgoing → Type 0
GoesSilent v (Bare p) = Unit {0}
GoesSilent v (Bearing p a) = at v p ≡ 0 → at v a ≡ 0

one_silent : (v : Numbers) (os : List Outgoing) (h : ℕ) (o : Outgoing) → AreSilent v os → slice_get os h ≡ Some o → GoesSilent v o
one_silent v [] h o all is = absurd (grind (arith, is))
one_silent v (Bare p ∷ os) zero o all is = let same : Bare p ≡ o = cc is in subst (GoesSilent v) same tt
one_silent v (Bearing p a ∷ os) zero o all is = let same : Bearing p a ≡ o = cc is in subst (GoesSilent v) same all.0
one_silent v (Bare p ∷ os) (suc h) o all is = one_silent v os h o all is
one_silent v (Bearing p a ∷ os) (suc h) o all is = one_silent v os h o all.1 is

-- what the registers of joints and of outputs hold
pub record RegistersAreSilent (lay : Laying) (p : Plan) (n : Places) (regs : Numbers) : Type 0 where
  pub joints :
      (x : ℕ) (j : Joint) (way : Direction) → slice_get p.joints x ≡ Some j → lay.keep x way ≡ true → 0 < width p j way
      → IsSilent regs (n.arrives (target j way))
  pub ports : (e : End) (c : Contact) → IsPortEnd e → contact_at p e ≡ Some c → 0 < bits_taken (Some c) → IsSilent regs (n.shows e)

-- a cycle of which what parts take are pulses or none, and what the outside gives is silent
module _ (lay : Laying) (p : Plan) (net : Netlist) (n : Places) (v regs after : Numbers) (right : IsRight p) (rank : End → ℕ) (parts : PartFacts lay p rank)
    (plan : PlanFacts lay p n) (facts : CycleFacts lay p net n v regs after) (before : RegistersAreSilent lay p n regs)
    (pulses : (i h : ℕ) (c : Contact) → contact_at p (PartEnd i h) ≡ Some c → at v (n.arrives (PartEnd i h)).pulse ≤ 1)
    (given : (e : End) (c : Contact) → IsPortEnd e → contact_at p e ≡ Some c → 0 < bits_put (Some c) → IsSilent v (n.leaves e)) where
  -- what leaves
  part_silent : (i h : ℕ) (k : Part) (c : Contact) → slice_get p.parts i ≡ Some k → contact_at p (PartEnd i h) ≡ Some c → 0 < bits_put (Some c)
      → IsSilent v (n.leaves (PartEnd i h))
  part_silent i h k c is there some =
      subst (IsSilent v) (sym (plan.leaving i h k is ∙ ap nets_out out.1)) (by_out out.0 out.2 (one_silent v (outs_of (lay.making i) k (n.start i)) h out.0 all out.1))
    where
      comes : Incoming
      comes = incoming_at p n i

      out : (o : Outgoing) × (slice_get (outs_of (lay.making i) k (n.start i)) h ≡ Some o) × GoesOut (n.start i) (layout (lay.making i) k (n.start i) comes) c o
      out =
          outgoing_at (n.start i) h (layout (lay.making i) k (n.start i) comes) (part_contacts k) (outs_of (lay.making i) k (n.start i)) c
          ((parts.gates i k is).fits.outgoing (n.start i) comes) (own_contact p i h k c is there)

      come_in : PulsesComeIn k v comes
      come_in g low =
          let own = there_is (part_contacts k) g low in
          let here : contact_at p (PartEnd i g) ≡ Some own.0 = end_contact p i g k own.0 is own.1 in
          subst (λ (m : ℕ). m ≤ 1) (sym (pulse_shape p n v i g own.0 here)) (pulses i g own.0 here)

      all : AreSilent v (outs_of (lay.making i) k (n.start i))
      all = (parts.gates i k is).silent (n.start i) comes v regs after (facts.parts i k is) come_in

      by_out : (o : Outgoing) → GoesOut (n.start i) (layout (lay.making i) k (n.start i) comes) c o → GoesSilent v o → IsSilent v (nets_out (Some o))
      by_out (Bare q) goes silent = let none : bits_put (Some c) ≡ 0 = sym (bits_out_put c) ∙ goes.0 in absurd (omega (arith, none, some))
      by_out (Bearing q a) goes silent = silent

  leaves_silent : (e : End) (c : Contact) → contact_at p e ≡ Some c → 0 < bits_put (Some c) → IsSilent v (n.leaves e)
  leaves_silent (PartEnd i h) c there some = let k = part_there p i h c there in part_silent i h k.0 c k.1 there some
  leaves_silent (ImportEnd i h) c there some = given (ImportEnd i h) c tt there some
  leaves_silent (ResultEnd h) c there some = given (ResultEnd h) c tt there some

  -- what leaves the end at which the tokens of a direction are put
  source_silent : (x : ℕ) (j : Joint) (way : Direction) → slice_get p.joints x ≡ Some j → 0 < width p j way → IsSilent v (n.leaves (source j way))
  source_silent x j way there some =
      let ends : Ends p j way = ends_of p j way (fits p [] p.joints j right (is_in_at x p.joints j there)) in
      leaves_silent (source j way) ends.from ends.from_there (subst (λ (b : ℕ). 0 < b) (sym ends.from_bits) some)

  -- what arrives
  target_silent : (x : ℕ) (j : Joint) (way : Direction) → slice_get p.joints x ≡ Some j → 0 < width p j way → IsSilent v (n.arrives (target j way))
  target_silent x j way there some none = by_keep (lay.keep x way) refl
    where
      by_keep : (b : Bool) → lay.keep x way ≡ b → at v (n.arrives (target j way)).number ≡ 0
      by_keep true keeps =
          let delays = facts.joints x j way there keeps in
          delays.number some ∙ before.joints x j way there keeps some (sym delays.pulse ∙ none)
      by_keep false passes =
          let nets = plan.straight x j way there passes in
          ap (λ (m : Nets). at v m.number) nets ∙ source_silent x j way there some (sym (ap (λ (m : Nets). at v m.pulse) nets) ∙ none)

  arrives_silent : (e : End) (c : Contact) → contact_at p e ≡ Some c → 0 < bits_taken (Some c) → IsSilent v (n.arrives e)
  arrives_silent e c there some none = by_place (places_of p e) refl
    where
      by_joint : (t : Taking p e c) → at v (n.arrives e).number ≡ 0
      by_joint t =
          let bits : 0 < width p t.joint (way_taken c.role) = subst (λ (b : ℕ). 0 < b) (sym t.bits) some in
          subst (λ (d : End). IsSilent v (n.arrives d)) (sym t.is_target) (target_silent t.index t.joint (way_taken c.role) t.there bits) none

      by_place : (f : Option End) → places_of p e ≡ f → at v (n.arrives e).number ≡ 0
      by_place None free = (facts.loose e c there free).1 some
      by_place (Some a) place = by_joint (taking p e a c right there place)

  -- so the next registers are silent, and the outputs of this cycle are
  pub registers_after : RegistersAreSilent lay p n after
  registers_after =
      record {
        joints = λ x j way there keeps some none.
            let delays = facts.joints x j way there keeps in
            delays.next_number some ∙ source_silent x j way there some (sym delays.next ∙ none);
        ports = λ e c port there some none.
            let delays = facts.ports e c port there in
            delays.next_number some ∙ arrives_silent e c there some (sym delays.next ∙ none);
      }

  pub shows_silent : (e : End) (c : Contact) → IsPortEnd e → contact_at p e ≡ Some c → 0 < bits_taken (Some c) → IsSilent v (n.shows e)
  shows_silent e c port there some none =
      let delays = facts.ports e c port there in
      delays.number some ∙ before.ports e c port there some (sym delays.pulse ∙ none)

-- registers that are all 0 are silent
pub silent_at_reset : (lay : Laying) (p : Plan) (n : Places) (regs : Numbers) → ((m : ℕ) → at regs m ≡ 0) → RegistersAreSilent lay p n regs
silent_at_reset lay p n regs zero_all =
    record {
      joints = λ x j way there keeps some none. zero_all (n.arrives (target j way)).number;
      ports = λ e c port there some none. zero_all (n.shows e).number;
    }
