-- The plan of a name realises it, at each ground type.
use Rattle.std.specs.Prelude.{◌≡◌, ℕ, ◌^◌, ◌<◌, [], ◌∷◌, All}
use Rattle.std.proofs.Common.{refl, sym, ◌∙◌, subst, inl}
use Rattle.gos_types.specs.Types.{Type', Com, Exp, Var, Pair, Fun}
use Rattle.gos_types.specs.Widths.{IsWidth}
use Rattle.gos_types.proofs.ListLemmas.{none_in_empty}
use Rattle.gos_model.specs.Terms.{Name, Term, Import, Deref, Assign, Lit}
use Rattle.gos_model.specs.Typing.{Imports, Typed}
use Rattle.gos_plan.specs.Plans.{Plan, IsRight}
use Rattle.gos_plan.specs.TokenBits.{LiteralFits}
use Rattle.gos_plan.specs.Joining.{IsSameButOrder, JoiningIsOne}
use Rattle.gos_realises.specs.realises.Regular.{IsRegular}
use Rattle.gos_realises.specs.realises.Matched.{RealisesInTurn}
use Rattle.gos_realises.specs.realises.Links.{IsJoined}
use Rattle.gos_realises.specs.realises.Wirings.{reading, writing}
use Rattle.gos_realises.specs.realises.Realises.{AllPorts, NamesDiffer, Suits}
use Rattle.gos_realises.specs.realises.Alone.{OrderIsFree}
use Rattle.gos_realises.proofs.realises.LiteralLemmas.{no_literals, reading_literals, writing_literals, literals_same}
use Rattle.gos_supplies.specs.names.Names.{imported, name_plan, NameIsRealised}
use Rattle.gos_supplies.proofs.names.DoneLemmas.{known, done_name_is_realised}
use Rattle.gos_supplies.proofs.names.ReadingLemmas.{read_plan, read_joining}
use Rattle.gos_supplies.proofs.names.ReadLemmas.{read_is_regular, read_realises}
use Rattle.gos_supplies.proofs.names.WritingLemmas.{write_plan, write_joining}
use Rattle.gos_supplies.proofs.names.WriteLemmas.{write_is_regular, write_realises}
use Rattle.gos_supplies.proofs.names.VariableLemmas.{variable_is_regular}

-- joinings are one but for the order of joints, and that is free
module _ (joining_is_one : JoiningIsOne) (order_is_free : OrderIsFree) where
  -- a plan with the one import, which is another one but for the order of its joints
  ordered : (n : Name) (w : ℕ) (t : Type') (m : Term) (p r : Plan)
      → IsRight p → All LiteralFits p.parts → IsRight r → IsSameButOrder r p → p.imports ≡ imported n (Var w) ∷ [] → p.outcome ≡ t → Typed (imported n (Var w) ∷ []) [] m t
      → IsRegular p → RealisesInTurn p m → Suits t r m × RealisesInTurn r m
  ordered n w t m p r right literals also same imports outcome typed regular realises = (
    record {
      right = also;
      literals = literals_same r.parts p.parts same.parts literals;
      outcome = same.outcome ∙ outcome;
      all_ports = subst AllPorts (sym is) (inl tt, tt);
      names = subst NamesDiffer (sym is) ((λ j there. absurd (none_in_empty j there)), tt);
      typed = subst (λ (i : Imports). Typed i [] m t) (sym is) typed;
      regular = (order_is_free p r right also same).0 regular;
    },
    (order_is_free p r right also same).1 m realises,
  )
    where
      is : r.imports ≡ imported n (Var w) ∷ []
      is = same.imports ∙ imports

  -- read and written
  reads : (n : Name) (w : ℕ) (r : Plan) → IsJoined (reading w (name_plan n (Var w))) r
      → Suits (Exp w) r (Deref (Import n)) × RealisesInTurn r (Deref (Import n))
  reads n w r joined =
      ordered n w (Exp w) (Deref (Import n)) (read_plan n w) r (read_joining n w).right (reading_literals w) joined.joining.right
      (joining_is_one (reading w (name_plan n (Var w))) r (read_plan n w) joined.joining (read_joining n w)) refl refl (w, refl, known n (Var w))
      (read_is_regular n w) (read_realises n w)

  writes : (n : Name) (w k : ℕ) (r : Plan) → IsWidth w → k < 2 ^ w → IsJoined (writing w k (name_plan n (Var w))) r
      → Suits Com r (Assign (Import n) (Lit k w)) × RealisesInTurn r (Assign (Import n) (Lit k w))
  writes n w k r wide small joined =
      ordered n w Com (Assign (Import n) (Lit k w)) (write_plan n w k) r (write_joining n w k).right (writing_literals w k small) joined.joining.right
      (joining_is_one (writing w k (name_plan n (Var w))) r (write_plan n w k) joined.joining (write_joining n w k)) refl refl
      (w, refl, known n (Var w), (refl, wide, small)) (write_is_regular n w k) (write_realises n w k)

  variable_suits : (n : Name) (w : ℕ) → Suits (Var w) (name_plan n (Var w)) (Import n)
  variable_suits n w =
      record {
        right = (((0, w, refl, refl), refl, refl), (((w, 0, refl, refl), refl, refl), tt));
        literals = no_literals;
        outcome = refl;
        all_ports = (inl tt, tt);
        names = (λ j there. absurd (none_in_empty j there), tt);
        typed = known n (Var w);
        regular = variable_is_regular n w;
      }

  pub name_is_realised : NameIsRealised
  name_is_realised n Com ground wide = done_name_is_realised n Com tt
  name_is_realised n (Exp w) ground wide = done_name_is_realised n (Exp w) tt
  name_is_realised n (Var w) ground wide =
      record { suits = variable_suits n w; means = (λ r joined. reads n w r joined, λ r k small joined. writes n w k r wide small joined) }
  name_is_realised n (Pair a b) ground wide = absurd ground
  name_is_realised n (Fun a b) ground wide = absurd ground
