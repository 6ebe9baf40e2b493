-- A plan of a variable behind a Share realises the variable that the plan realises.
--
-- Joined to the parts that read or write it, the plan behind the Share is a buffer before the plan with a loose part, joined
-- to the same parts; and that one does what the plan alone does, so joined.
use Rattle.std.specs.Prelude.{◌^◌, ◌<◌, List, [], ◌∷◌, ◌++◌, length, All}
use Rattle.std.proofs.Common.{◌≡◌, ℕ, sym, ◌∙◌, ap, subst, arith}
use Rattle.gos_types.specs.Types.{Type', Com, Exp, Var, Pair, Fun, IsGround}
use Rattle.gos_model.specs.Terms.{Term, Lit, Assign, Deref}
use Rattle.gos_model.specs.Typing.{Imported, Typed}
use Rattle.gos_plan.specs.Kinds as kinds
use Rattle.gos_plan.specs.Kinds.{Part, Share}
use Rattle.gos_plan.specs.Plans.{Plan, IsRight}
use Rattle.gos_plan.specs.TokenBits.{LiteralFits}
use Rattle.gos_realises.specs.realises.Regular.{count, IsRegular}
use Rattle.gos_realises.specs.realises.Matched.{RealisesInTurn}
use Rattle.gos_realises.specs.realises.Links.{IsJoined}
use Rattle.gos_realises.specs.realises.Wirings.{reading, writing}
use Rattle.gos_realises.specs.realises.Realises.{AllPorts, NamesDiffer, Suits, Means}
use Rattle.gos_realises.proofs.realises.LiteralLemmas.{reading_literals, writing_literals, literals_same, literals_append}
use Rattle.gos_realises.specs.joined.Joined.{HasJoining}
use Rattle.gos_realises.proofs.joined.WholeLemmas.{variables_are_joined}
use Rattle.gos_sharing.specs.buffers.Buffering.{with_part, buffered, ResultIsJoined, GroundIsBuffered}
use Rattle.gos_sharing.proofs.buffers.RegularLemmas.{buffered_is_regular}
use Rattle.gos_sharing.proofs.buffers.MatchedLemmas.{buffered_realises}
use Rattle.gos_sharing.proofs.buffers.LoosePartLemmas.{with_part_right}
use Rattle.gos_sharing.proofs.buffers.BufferedLemmas.{whole_right, buffered_literals, done_suits, done_is_buffered}
use Rattle.gos_sharing.proofs.buffers.DrivenLemmas.{IsDriven, IsOwn, driven_buffer}
use Rattle.gos_sharing.proofs.buffers.LooseDrivenLemmas.{IsLater, loose_keeps}
use Rattle.gos_sharing.proofs.buffers.ReadingLemmas.{ReadOwn, read_is_own, read_is_later, read_is_driven}
use Rattle.gos_sharing.proofs.buffers.WritingLemmas.{WriteOwn, write_is_own, write_is_later, write_is_driven}

-- what a driven plan does, the plan behind the Share does, driven
driven_keeps : (v f : ℕ) (ds : List Part) (Own : ℕ → Rattle.gos_plan.specs.Plans.End → Rattle.gos_plan.specs.Plans.End → Type 0) → IsOwn Own → IsLater Own (length ds) → 0 < length ds
    → (c : ℕ) (p : Plan) → c < 2 → IsRight p → IsGround p.outcome → ResultIsJoined p → v < count p.outcome → (r q plain : Plan)
    → IsDriven v f ds Own (buffered p.outcome c p) r → IsDriven v f ds Own (with_part (Share p.outcome) p) q → IsDriven v f ds Own p plain
    → q.outcome ≡ r.outcome → q.outcome ≡ plain.outcome
    → (IsRegular plain → IsRegular r) × ((m : Term) → RealisesInTurn plain m → RealisesInTurn r m)
driven_keeps v f ds Own own later some c p two right ground result known r q plain driven loose alone one_outcome other_outcome =
    let buffer = driven_buffer v f ds Own own c p two right ground result r q driven loose one_outcome known in
    let keeps = loose_keeps v f ds Own later some (Share p.outcome) p right q plain loose alone other_outcome in (
      (λ regular. buffered_is_regular (length p.parts) p.outcome c r q buffer (keeps.0 regular)),
      (λ m realises. buffered_realises (length p.parts) p.outcome c r q m buffer (keeps.1 m realises)),
    )

-- what suits, by the imports that it has
suits_so : (t : Type') (p plain r : Plan) (m n : Term) → AllPorts p.imports → NamesDiffer p.imports → plain.imports ≡ p.imports → r.imports ≡ p.imports
    → IsRight r → All LiteralFits r.parts → r.outcome ≡ t → IsRegular r → Suits t plain n → Suits t r n
suits_so t p plain r m n ports names one other right literals outcome regular suits =
    record {
      right = right;
      literals = literals;
      outcome = outcome;
      all_ports = subst AllPorts (sym other) ports;
      names = subst NamesDiffer (sym other) names;
      typed = subst (λ (is : List Imported). Typed is [] n t) (one ∙ sym other) suits.typed;
      regular = regular;
    }

module _ (w c : ℕ) (p : Plan) (m : Term) (two : c < 2) (right : IsRight p) (outcome : p.outcome ≡ Var w) (result : ResultIsJoined p) (literals : All LiteralFits p.parts) (ports : AllPorts p.imports) (names : NamesDiffer p.imports) where
  is_ground : IsGround p.outcome
  is_ground = subst IsGround (sym outcome) tt

  two_shakes : count p.outcome ≡ 2
  two_shakes = ap count outcome

  abbrev whole : Plan
  whole = buffered p.outcome c p

  abbrev loose : Plan
  loose = with_part (Share p.outcome) p

  is_right : IsRight whole
  is_right = whole_right c p two right is_ground

  loose_right : IsRight loose
  loose_right = with_part_right (Share p.outcome) p right

  -- the plan behind the Share, with the parts that drive it
  driven_literals : (ds : List Part) (r : Plan) → r.parts ≡ whole.parts ++ ds → All LiteralFits ds → All LiteralFits r.parts
  driven_literals ds r are driving =
      literals_same r.parts (whole.parts ++ ds) are (literals_append whole.parts ds (buffered_literals p.outcome c p literals) driving)

  reads : ((r : Plan) → IsJoined (reading w p) r → Suits (Exp w) r (Deref m) × RealisesInTurn r (Deref m))
      → (r : Plan) → IsJoined (reading w whole) r → Suits (Exp w) r (Deref m) × RealisesInTurn r (Deref m)
  reads alone r join = of_joinings (variables_are_joined w 0 p right outcome).0 (variables_are_joined w 0 loose loose_right outcome).0
    where
      of_joinings : HasJoining (reading w p) → HasJoining (reading w loose) → Suits (Exp w) r (Deref m) × RealisesInTurn r (Deref m)
      of_joinings (plain, is_plain) (q, is_q) =
          let driven = read_is_driven w whole r is_right outcome join.joining in
          let bare = read_is_driven w loose q loose_right outcome is_q.joining in
          let by_itself = read_is_driven w p plain right outcome is_plain.joining in
          let keeps =
          driven_keeps 0 0 (kinds.Deref w ∷ []) ReadOwn read_is_own read_is_later (omega arith) c p two right is_ground result (omega (arith, two_shakes)) r q plain driven bare by_itself
          (is_q.joining.outcome ∙ sym join.joining.outcome) (is_q.joining.outcome ∙ sym is_plain.joining.outcome) in
          let known = alone plain is_plain in (
            suits_so (Exp w) p plain r m (Deref m) ports names by_itself.imports driven.imports join.joining.right
                (driven_literals (kinds.Deref w ∷ []) r driven.parts (reading_literals w)) join.joining.outcome (keeps.0 known.0.regular) known.0,
            keeps.1 (Deref m) known.1,
          )

  writes : ((r : Plan) (k : ℕ) → k < 2 ^ w → IsJoined (writing w k p) r → Suits Com r (Assign m (Lit k w)) × RealisesInTurn r (Assign m (Lit k w)))
      → (r : Plan) (k : ℕ) → k < 2 ^ w → IsJoined (writing w k whole) r → Suits Com r (Assign m (Lit k w)) × RealisesInTurn r (Assign m (Lit k w))
  writes alone r k small join = of_joinings (variables_are_joined w k p right outcome).1 (variables_are_joined w k loose loose_right outcome).1
    where
      of_joinings : HasJoining (writing w k p) → HasJoining (writing w k loose) → Suits Com r (Assign m (Lit k w)) × RealisesInTurn r (Assign m (Lit k w))
      of_joinings (plain, is_plain) (q, is_q) =
          let driven = write_is_driven w k whole r is_right outcome join.joining in
          let bare = write_is_driven w k loose q loose_right outcome is_q.joining in
          let by_itself = write_is_driven w k p plain right outcome is_plain.joining in
          let keeps =
          driven_keeps 1 1 (kinds.Assign w ∷ kinds.Lit w k ∷ []) WriteOwn write_is_own write_is_later (omega arith) c p two right is_ground result (omega (arith, two_shakes)) r q plain driven bare by_itself
          (is_q.joining.outcome ∙ sym join.joining.outcome) (is_q.joining.outcome ∙ sym is_plain.joining.outcome) in
          let known = alone plain k small is_plain in (
            suits_so Com p plain r m (Assign m (Lit k w)) ports names by_itself.imports driven.imports join.joining.right
                (driven_literals (kinds.Assign w ∷ kinds.Lit w k ∷ []) r driven.parts (writing_literals w k small)) join.joining.outcome (keeps.0 known.0.regular) known.0,
            keeps.1 (Assign m (Lit k w)) known.1,
          )

pub ground_is_buffered : GroundIsBuffered
ground_is_buffered Com c p m two ground result realises =
    let found = done_is_buffered Com c p m two ground result realises.suits realises.means in record { suits = found.0; means = found.1 }
ground_is_buffered (Exp w) c p m two ground result realises =
    let found = done_is_buffered (Exp w) c p m two ground result realises.suits realises.means in record { suits = found.0; means = found.1 }
ground_is_buffered (Var w) c p m two ground result realises =
    record {
      suits = done_suits (Var w) c p m two tt result realises.suits;
      means =
          subst (λ (t : Type'). Means (Var w) (buffered t c p) m) realises.suits.outcome (
            reads w c p m two realises.suits.right realises.suits.outcome result realises.suits.literals realises.suits.all_ports realises.suits.names realises.means.0,
            writes w c p m two realises.suits.right realises.suits.outcome result realises.suits.literals realises.suits.all_ports realises.suits.names realises.means.1,
          );
    }
ground_is_buffered (Pair a b) c p m two ground result realises = absurd ground
ground_is_buffered (Fun a b) c p m two ground result realises = absurd ground
