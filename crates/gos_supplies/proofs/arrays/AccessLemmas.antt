-- The plan of an access is regular, and realises it.
use Rattle.std.specs.Prelude.{◌≡◌, ℕ, Bool, List, [], ◌∷◌, All}
use Rattle.std.proofs.Common.{refl, sym, ap, subst, inl}
use Rattle.gos_types.proofs.ListLemmas.{none_in_empty}
use Rattle.gos_types.specs.Types.{Exp, Var, Fun, IsDone}
use Rattle.gos_model.specs.Terms.{Name, Term, Import, App}
use Rattle.gos_model.specs.Typing.{Imports, Typed}
use Rattle.gos_model.specs.ArrayPorts.{KeepsPortsAfter}
use Rattle.gos_model.specs.Moves.{Idle}
use Rattle.gos_plan.specs.Plans.{End, Plan}
use Rattle.gos_plan.specs.Tokens.{Tokens, Element, Runs, IsIdle}
use Rattle.gos_plan.specs.TokenBits.{LiteralFits}
use Rattle.gos_plan.specs.Orderly.{Open}
use Rattle.gos_plan.proofs.TokenBitsLemmas.{idle_fits}
use Rattle.gos_realises.specs.realises.Regular.{InputsKeepTurns, IsRegular}
use Rattle.gos_realises.specs.realises.Matched.{all_shown, IsMatched, program_of, RealisesInTurn}
use Rattle.gos_realises.specs.realises.Realises.{AllPorts, NamesDiffer}
use Rattle.gos_realises.proofs.realises.PortInputLemmas.{turns_keep_ports, ports_keep_turns}
use Rattle.gos_realises.proofs.realises.RingLemmas.{IsFirst}
use Rattle.gos_joining.specs.webs.Cutting.{Cut, cut_tokens}
use Rattle.gos_joining.proofs.webs.IdleLemmas.{idle_is_cut}
use Rattle.gos_supplies.specs.names.Names.{imported}
use Rattle.gos_supplies.specs.arrays.Accesses.{Access, Read, Write, accessing}
use Rattle.gos_supplies.specs.arrays.Made.{IsAccess, access_plan}
use Rattle.gos_supplies.specs.arrays.Accessed.{AccessIsRegular, AccessIsRealised}
use Rattle.gos_supplies.proofs.names.TrackLemmas.{by_turns}
use Rattle.gos_supplies.proofs.names.ReadLemmas as reads
use Rattle.gos_supplies.proofs.names.WriteLemmas as writes
use Rattle.gos_supplies.proofs.arrays.LabelLemmas.{index_keeps, own_keeps}
use Rattle.gos_supplies.proofs.arrays.CleanLemmas.{idle_is_clean}
use Rattle.gos_supplies.proofs.arrays.ShownLemmas.{own_list, index_list, own_seen, index_seen, own_runs, index_runs}
use Rattle.gos_supplies.proofs.arrays.DoneLemmas.{config_of}
use Rattle.gos_supplies.proofs.arrays.StandLemmas.{Stand, Resting, is_away, IsAccessTrack, read_stand, read_track, WriteNext, write_succ, write_stand, write_track}
use Rattle.gos_supplies.proofs.arrays.RegularLemmas.{access_is_regular_so}
use Rattle.gos_supplies.proofs.arrays.WalkLemmas.{walk}

module _
    (a : Access) (i w : ℕ) (x : Name) (n : Term) (f g : Cut) (r p q : Plan) (is : IsAccess i w x f g r p q) (regular : IsRegular r) (ports : AllPorts r.imports)
    (differ : NamesDiffer r.imports) (literals : All LiteralFits r.parts) (done : IsDone p.outcome) (own_regular : IsRegular p) (index_regular : IsRegular q)
    (typed : Typed q.imports [] n (Exp i)) (realises : RealisesInTurn q n)
    (S : Type 0) (Next : S → Element → Type 0) (succ : S → Element → S) (At : S → Tokens → Type 0) (OpenAt : S → Open → Type 0)
    (Opened : S → (End → Bool) → Type 0) (stand : S → Stand) (track : IsAccessTrack a w p S Next succ At OpenAt Opened stand)
    (z : S) (first : IsFirst p S At OpenAt Opened z) (resting : stand z ≡ Resting) where
  others : AllPorts q.imports
  others = (subst AllPorts is.imports ports).1

  others_differ : NamesDiffer q.imports
  others_differ = (subst NamesDiffer is.imports differ).1

  variable_port : AllPorts p.imports
  variable_port = subst AllPorts (sym is.variable) (inl tt, tt)

  variable_differs : NamesDiffer p.imports
  variable_differs = subst NamesDiffer (sym is.variable) ((λ j there. absurd (none_in_empty j there)), tt)

  module _ (s t : Tokens) (xs : List Element) (idle : IsIdle r s) (runs : Runs r xs s t) (turns : InputsKeepTurns r [] xs) where
    keeps : KeepsPortsAfter r.imports [] (all_shown r xs)
    keeps = turns_keep_ports r xs s t regular ports differ (subst IsDone (sym is.outcome) done) idle runs turns

    own_idle : IsIdle p (cut_tokens f p s)
    own_idle = idle_is_cut f r p s idle

    index_idle : IsIdle q (cut_tokens g q s)
    index_idle = idle_is_cut g r q s idle

    own_go : Runs p (own_list f g xs) (cut_tokens f p s) (cut_tokens f p t)
    own_go = own_runs i w x f g r p q is differ literals xs s t (idle_fits r s idle) runs

    index_go : Runs q (index_list f g xs) (cut_tokens g q s) (cut_tokens g q t)
    index_go = index_runs i w x f g r p q is differ literals xs s t (idle_fits r s idle) runs

    keeps_all : KeepsPortsAfter (imported x (Fun (Exp i) (Var w)) ∷ q.imports) [] (all_shown r xs)
    keeps_all = subst (λ (us : Imports). KeepsPortsAfter us [] (all_shown r xs)) is.imports keeps

    own_turns : InputsKeepTurns p [] (own_list f g xs)
    own_turns =
        ports_keep_turns p (own_list f g xs) (cut_tokens f p s) (cut_tokens f p t) own_regular variable_port variable_differs done own_idle own_go
        (subst (λ (us : Imports). KeepsPortsAfter us [] (all_shown p (own_list f g xs))) (sym is.variable)
        (subst (KeepsPortsAfter (imported x (Var w) ∷ []) []) (sym (own_seen i w x f g r p q is differ xs s t runs))
        (own_keeps x i w q.imports [] (all_shown r xs) keeps_all)))

    index_turns : InputsKeepTurns q [] (index_list f g xs)
    index_turns =
        ports_keep_turns q (index_list f g xs) (cut_tokens g q s) (cut_tokens g q t) index_regular others others_differ (subst IsDone (sym is.number) tt) index_idle index_go
        (subst (KeepsPortsAfter q.imports []) (sym (index_seen i w x f g r p q is differ xs s t runs))
        (index_keeps x i w q.imports [] (all_shown r xs) keeps_all))

    matched : IsMatched r (program_of r (accessing a w (App (Import x) n))) xs s Idle
    matched =
        subst (IsMatched r (program_of r (accessing a w (App (Import x) n))) xs s) (ap (λ (m : Stand). config_of a i w x n n m) resting)
        (walk a i w x n f g r p q is differ literals typed S Next succ At OpenAt Opened stand track xs z s n Idle []
        (record {
          here = first.rests (cut_tokens f p s) own_idle;
          fit = idle_fits r s idle;
          clean = idle_is_clean r s idle;
          keeps = keeps;
          follows = by_turns p S Next succ At OpenAt Opened track.track (own_list f g xs) z (cut_tokens f p s) (cut_tokens f p t) []
              (first.rests (cut_tokens f p s) own_idle) own_go first.closed own_turns;
          matched = (realises (cut_tokens g q s) (cut_tokens g q t) (index_list f g xs) index_idle index_go index_turns).0;
          index = refl;
          tells = record { here = sym (ap is_away resting); other = refl };
        }))

  pub access_realises : RealisesInTurn r (accessing a w (App (Import x) n))
  access_realises s t xs idle runs turns = (matched s t xs idle runs turns, (regular s t xs idle runs turns).0)

pub access_is_regular : AccessIsRegular
access_is_regular Read i w x f g r q is literals regular =
    access_is_regular_so i w x f g r (access_plan Read x w) q is tt literals (reads.read_is_regular x w) regular
access_is_regular (Write k) i w x f g r q is literals regular =
    access_is_regular_so i w x f g r (access_plan (Write k) x w) q is tt literals (writes.write_is_regular x w k) regular

pub access_is_realised : AccessIsRealised
access_is_realised Read i w x n f g r q is ports differ literals regular typed realises =
    access_realises Read i w x n f g r (access_plan Read x w) q is (access_is_regular Read i w x f g r q is literals regular) ports differ literals tt
    (reads.read_is_regular x w) regular typed realises
    reads.Stage (reads.Next w) reads.succ (reads.At w) reads.OpenAt reads.Opened read_stand (read_track x w) reads.Stage.Resting (reads.first x w) refl
access_is_realised (Write k) i w x n f g r q is ports differ literals regular typed realises =
    access_realises (Write k) i w x n f g r (access_plan (Write k) x w) q is (access_is_regular (Write k) i w x f g r q is literals regular) ports differ literals tt
    (writes.write_is_regular x w k) regular typed realises
    writes.Stage (WriteNext x w k) (write_succ x w k) (writes.At x w k) writes.OpenAt writes.Opened write_stand (write_track x w k) writes.Stage.Resting (writes.first x w k) refl
