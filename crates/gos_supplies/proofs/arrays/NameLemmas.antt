-- The plan of the name of an array's import realises the name at its type.
use Rattle.std.specs.Prelude.{◌≡◌, ℕ, zero, suc, ◌^◌, ◌<◌, length, List, [], ◌∷◌, ◌++◌, Some, All, Contains, slice_get}
use Rattle.std.proofs.Common.{refl, sym, ◌∙◌, ap, subst, arith, inr}
use Rattle.gos_types.proofs.ListLemmas.{none_in_empty}
use Rattle.gos_types.specs.declared.shakes.Role.TheVariants.{Serve, Ask}
use Rattle.gos_types.proofs.RoleLemmas.{ask_is_not_serve}
use Rattle.gos_types.specs.Types.{Type', Com, Exp, Var, Fun}
use Rattle.gos_types.specs.Widths.{IsWidth}
use Rattle.std.proofs.lemmas.Option.{same_Some}
use Rattle.gos_model.specs.Terms.{Name, Term, Import, App, Deref, Assign, Lit}
use Rattle.gos_model.specs.Typing.{Imported, Imports, Typed, Named, Apart}
use Rattle.gos_plan.specs.Kinds.{Contact, serves, asks, contacts_of}
use Rattle.gos_plan.specs.Plans.{Plan, ImportEnd, ResultEnd, IsRight}
use Rattle.gos_plan.specs.TokenBits.{LiteralFits}
use Rattle.gos_realises.specs.realises.Regular.{IsRegular}
use Rattle.gos_realises.specs.realises.Matched.{RealisesInTurn}
use Rattle.gos_realises.specs.realises.Links.{IsJoined}
use Rattle.gos_realises.specs.realises.Wirings.{applying, reading, writing}
use Rattle.gos_realises.specs.realises.Realises.{AllPorts, NamesDiffer, HaveOtherNames, Suits}
use Rattle.gos_realises.proofs.realises.LiteralLemmas.{no_literals, reading_literals, writing_literals, literals_same, literals_append}
use Rattle.gos_realises.proofs.realises.PlaceLemmas.{contains_at, place_of}
use Rattle.gos_joining.proofs.renumbered.ImportLemmas.{has_type, type_has}
use Rattle.gos_programs.specs.contexts.Widening.{AreAmong}
use Rattle.gos_programs.proofs.contexts.WideningLemmas.{typed_more}
use Rattle.gos_joining.specs.webs.Webs.{joint}
use Rattle.gos_supplies.specs.names.Names.{imported}
use Rattle.gos_supplies.specs.arrays.Accesses.{Access, Read, Write, accessing}
use Rattle.gos_supplies.specs.arrays.Made.{access_plan}
use Rattle.gos_supplies.specs.arrays.ArrayNames.{array_name, ArrayNameIsName, ArrayNameIsRealised}
use Rattle.gos_supplies.proofs.typing.WhenceLemmas.{named}
use Rattle.gos_supplies.proofs.turns.NameLemmas.{name_is_regular}
use Rattle.gos_supplies.proofs.turns.ApplyLemmas.{applying_is_regular}
use Rattle.gos_supplies.proofs.arrays.LabelLemmas.{array_there}
use Rattle.gos_supplies.proofs.arrays.MadeLemmas.{own_cut, index_cut, IsSplit, split_access}
use Rattle.gos_supplies.proofs.arrays.AppliedLemmas.{imports_are, parts_are}
use Rattle.gos_supplies.proofs.arrays.WiringLemmas.{read_split, write_split}
use Rattle.gos_supplies.proofs.arrays.AccessLemmas.{access_is_regular, access_is_realised}

pub array_right : (x : Name) (i w : ℕ) → IsRight (array_name x i w)
array_right x i w =
    (((0, i, refl, refl), refl, refl), (((0, w, refl, refl), refl, refl), (((w, 0, refl, refl), refl, refl), tt)))

pub array_name_is_name : ArrayNameIsName
array_name_is_name x i w =
    record {
      right = array_right x i w;
      imports = refl;
      outcome = refl;
      parts = refl;
      serving = serving;
      asking = asking;
    }
  where
    serving : (h : ℕ) (c : Contact) → slice_get (contacts_of (Fun (Exp i) (Var w))) h ≡ Some c → c.role ≡ Serve
        → Contains (array_name x i w).joints (joint (ResultEnd h) (ImportEnd 0 h))
    serving zero c at role = absurd (ask_is_not_serve (ap (λ (k : Contact). k.role) (same_Some (asks 0 i) c at) ∙ role))
    serving (suc zero) c at role = (1, omega arith, refl)
    serving (suc (suc zero)) c at role = (2, omega arith, refl)
    serving (suc (suc (suc h))) c at role = absurd (cc at)

    asking : (h : ℕ) (c : Contact) → slice_get (contacts_of (Fun (Exp i) (Var w))) h ≡ Some c → c.role ≡ Ask
        → Contains (array_name x i w).joints (joint (ImportEnd 0 h) (ResultEnd h))
    asking zero c at role = (0, omega arith, refl)
    asking (suc zero) c at role = absurd (ask_is_not_serve (sym role ∙ ap (λ (k : Contact). k.role) (sym (same_Some (serves 0 w) c at))))
    asking (suc (suc zero)) c at role = absurd (ask_is_not_serve (sym role ∙ ap (λ (k : Contact). k.role) (sym (same_Some (serves w 0) c at))))
    asking (suc (suc (suc h))) c at role = absurd (cc at)

array_regular : (x : Name) (i w : ℕ) → IsRegular (array_name x i w)
array_regular x i w = name_is_regular (imported x (Fun (Exp i) (Var w))) (array_name x i w) (array_name_is_name x i w)

array_suits : (x : Name) (i w : ℕ) → Suits (Fun (Exp i) (Var w)) (array_name x i w) (Import x)
array_suits x i w =
    record {
      right = array_right x i w;
      literals = no_literals;
      outcome = refl;
      all_ports = (inr tt, tt);
      names = (λ j there. absurd (none_in_empty j there), tt);
      typed = array_there x i w [];
      regular = array_regular x i w;
    }

-- with an index
module _ (x : Name) (i w : ℕ) (wide : IsWidth w) (q s : Plan) (n : Term) (other : HaveOtherNames (array_name x i w).imports q.imports)
    (suits : Suits (Exp i) q n) (realises : RealisesInTurn q n) (joined : IsJoined (applying (Exp i) (Var w) (array_name x i w) q) s) where
  abbrev us : List Imported
  us = imported x (Fun (Exp i) (Var w)) ∷ q.imports

  imports : s.imports ≡ us
  imports = imports_are x i w q s suits.right suits.outcome joined.joining

  ports : AllPorts us
  ports = (inr tt, suits.all_ports)

  differ : NamesDiffer us
  differ = (λ j there. other (imported x (Fun (Exp i) (Var w))) j (0, omega arith, refl) there, suits.names)

  among : AreAmong q.imports us
  among y t h =
      let (m, there, name, ty) = has_type q.imports y t h in
      let (k, at) = place_of q.imports m there in
      type_has us differ y m (contains_at us (suc k) m at) name ∙ ap Some ty

  apart : Apart (Import x) n
  apart z (zero, small, at) in_n =
      let one = named q.imports z n 0 [] (Exp i) (omega arith) suits.typed in_n in
      let both : Named x ≡ Named one.import.name = at ∙ one.same in
      let same : x ≡ one.import.name = cc both in
      other (imported x (Fun (Exp i) (Var w))) one.import (0, omega arith, refl) one.has same
  apart z (suc k, small, at) in_n = absurd (omega (arith, small))

  typed : Typed us [] (App (Import x) n) (Var w)
  typed = (Exp i, array_there x i w q.imports, typed_more q.imports us among [] n (Exp i) suits.typed, apart)

  parts : s.parts ≡ q.parts
  parts = parts_are x i w q s suits.right suits.outcome joined.joining

  applied_suits : Suits (Var w) s (App (Import x) n)
  applied_suits =
      record {
        right = joined.joining.right;
        literals = literals_same s.parts q.parts parts suits.literals;
        outcome = joined.joining.outcome;
        all_ports = subst AllPorts (sym imports) ports;
        names = subst NamesDiffer (sym imports) differ;
        typed = subst (λ (vs : Imports). Typed vs [] (App (Import x) n) (Var w)) (sym imports) typed;
        regular =
            applying_is_regular (Exp i) (Var w) (array_name x i w) q s refl suits.outcome no_literals suits.literals (array_regular x i w) suits.regular joined;
      }

  -- read or written
  accessed : (a : Access) (t : Type') (r : Plan) → IsSplit i w x r (access_plan a x w) q → r.outcome ≡ t → All LiteralFits (access_plan a x w).parts
      → Typed us [] (accessing a w (App (Import x) n)) t
      → Suits t r (accessing a w (App (Import x) n)) × RealisesInTurn r (accessing a w (App (Import x) n))
  accessed a t r split outcome own typing =
      let access = split_access i w x r (access_plan a x w) q split in
      let literals = literals_same r.parts (q.parts ++ (access_plan a x w).parts) split.parts (literals_append q.parts (access_plan a x w).parts suits.literals own) in
      let all = subst AllPorts (sym split.imports) ports in
      let names = subst NamesDiffer (sym split.imports) differ in (
        record {
          right = split.whole_right;
          literals = literals;
          outcome = outcome;
          all_ports = all;
          names = names;
          typed = subst (λ (vs : Imports). Typed vs [] (accessing a w (App (Import x) n)) t) (sym split.imports) typing;
          regular = access_is_regular a i w x (own_cut (length q.parts) (access_plan a x w)) (index_cut q) r q access literals suits.regular;
        },
        access_is_realised a i w x n (own_cut (length q.parts) (access_plan a x w)) (index_cut q) r q access all names literals suits.regular suits.typed realises,
      )

  reads : (r : Plan) → IsJoined (reading w s) r → Suits (Exp w) r (Deref (App (Import x) n)) × RealisesInTurn r (Deref (App (Import x) n))
  reads r read =
      accessed Read (Exp w) r (read_split x i w q s r suits.right suits.outcome joined.joining read.joining) read.joining.outcome (reading_literals w) (w, refl, typed)

  writes : (r : Plan) (k : ℕ) → k < 2 ^ w → IsJoined (writing w k s) r
      → Suits Com r (Assign (App (Import x) n) (Lit k w)) × RealisesInTurn r (Assign (App (Import x) n) (Lit k w))
  writes r k small write =
      accessed (Write k) Com r (write_split x i w q s r suits.right suits.outcome joined.joining k write.joining) write.joining.outcome (writing_literals w k small)
      (w, refl, typed, (refl, wide, small))

pub array_name_is_realised : ArrayNameIsRealised
array_name_is_realised x i w wide =
    record {
      suits = array_suits x i w;
      means = λ q s n other suits means joined. (
        applied_suits x i w wide q s n other suits means joined,
        (reads x i w wide q s n other suits means joined, writes x i w wide q s n other suits means joined),
      );
    }
