-- A function that writes its argument at a number, applied to an array: with the number of the index joined it writes there, and
-- without it doesn't.
use Rattle.std.specs.Prelude.{◌≡◌, ◌≢◌, ◌⊎◌, ℕ, zero, suc, ◌+◌, Some, Contains, slice_get}
use Rattle.std.proofs.Common.{refl, subst, arith, inl, inr}
use Rattle.gos_types.proofs.ListLemmas.{none_in_empty}
use Rattle.gos_types.specs.Types.{Com, Fun}
use Rattle.gos_model.specs.Terms.{Import, App}
use Rattle.gos_model.specs.ArrayPorts.{a}
use Rattle.gos_plan.specs.Kinds.{Contact, asks, serves, contacts_of, turned_contact}
use Rattle.gos_plan.specs.Plans.{End, PartEnd, ImportEnd, ResultEnd, Joint, contact_at, IsRight}
use Rattle.gos_plan.specs.Joining.{place, Wiring, Connects, IsJoining, JoiningIsOne}
use Rattle.gos_realises.specs.realises.Wirings.{applying, link}
use Rattle.gos_realises.specs.realises.Alone.{OrderIsFree}
use Rattle.gos_realises.proofs.realises.FittingLemmas.{applied_fits}
use Rattle.gos_joining.specs.webs.Webs.{joint}
use Rattle.gos_supplies.specs.names.SmallArrays.{write_index_left}
use Rattle.gos_supplies.proofs.names.SmallWriteLemmas.{applied_index_is_told}
use Rattle.gos_supplies.proofs.names.SmallJoiningLemmas.{end_class, IsPaired, paired_fits, paired_joint}
use Rattle.gos_supplies.specs.arrays.ArrayNames.{array_name}
use Rattle.gos_supplies.specs.arrays.Writers.{array_type, writer, index_unjoined, WriterWrites, UnjoinedDoesNotWrite, UnjoinedIsNoWriter}
use Rattle.gos_supplies.proofs.arrays.NameLemmas.{array_right, array_name_is_realised}
use Rattle.gos_supplies.proofs.arrays.FunctionLemmas.{writer_is_realised}

-- the plan that leaves the index unjoined
abbrev left_wiring : Wiring
left_wiring = applying array_type Com index_unjoined (array_name a 1 8)

abbrev left_class : ℕ → End → ℕ
left_class zero (PartEnd zero zero) = 1
left_class zero (PartEnd zero (suc zero)) = 2
left_class zero (PartEnd zero (suc (suc h))) = 0
left_class zero (PartEnd (suc zero) h) = 1
left_class zero (PartEnd (suc (suc k)) h) = 5
left_class zero (ImportEnd k h) = 9
left_class zero (ResultEnd zero) = 3
left_class zero (ResultEnd (suc zero)) = 4
left_class zero (ResultEnd (suc (suc zero))) = 2
left_class zero (ResultEnd (suc (suc (suc h)))) = 0
left_class (suc zero) (PartEnd k h) = 9
left_class (suc zero) (ImportEnd k zero) = 3
left_class (suc zero) (ImportEnd k (suc zero)) = 4
left_class (suc zero) (ImportEnd k (suc (suc h))) = 2
left_class (suc zero) (ResultEnd zero) = 3
left_class (suc zero) (ResultEnd (suc zero)) = 4
left_class (suc zero) (ResultEnd (suc (suc h))) = 2
left_class (suc (suc k)) e = 9

abbrev left_asker : ℕ → End
left_asker zero = ResultEnd 0
left_asker (suc zero) = PartEnd 0 0
left_asker (suc (suc zero)) = PartEnd 0 1
left_asker (suc (suc (suc zero))) = ImportEnd 0 0
left_asker (suc (suc (suc (suc zero)))) = ImportEnd 0 1
left_asker (suc (suc (suc (suc (suc k))))) = PartEnd 2 0

abbrev left_server : ℕ → End
left_server zero = PartEnd 0 2
left_server (suc zero) = PartEnd 1 0
left_server (suc (suc zero)) = ImportEnd 0 2
left_server (suc (suc (suc zero))) = ImportEnd 0 0
left_server (suc (suc (suc (suc zero)))) = ImportEnd 0 1
left_server (suc (suc (suc (suc (suc k))))) = PartEnd 2 0

left_which : (e : End) (c : Contact) → contact_at write_index_left e ≡ Some c
    → (e ≡ left_asker (end_class left_wiring left_class e)) ⊎ (e ≡ left_server (end_class left_wiring left_class e))
left_which (PartEnd zero zero) c h = inl refl
left_which (PartEnd zero (suc zero)) c h = inl refl
left_which (PartEnd zero (suc (suc zero))) c h = inr refl
left_which (PartEnd zero (suc (suc (suc j)))) c h = absurd (grind (arith, h))
left_which (PartEnd (suc zero) zero) c h = inr refl
left_which (PartEnd (suc zero) (suc j)) c h = absurd (grind (arith, h))
left_which (PartEnd (suc (suc zero)) zero) c h = inr refl
left_which (PartEnd (suc (suc zero)) (suc j)) c h = absurd (grind (arith, h))
left_which (PartEnd (suc (suc (suc i))) j) c h = absurd (grind (arith, h))
left_which (ImportEnd zero zero) c h = inl refl
left_which (ImportEnd zero (suc zero)) c h = inl refl
left_which (ImportEnd zero (suc (suc zero))) c h = inr refl
left_which (ImportEnd zero (suc (suc (suc j)))) c h = absurd (grind (arith, h))
left_which (ImportEnd (suc i) j) c h = absurd (grind (arith, h))
left_which (ResultEnd zero) c h = inl refl
left_which (ResultEnd (suc j)) c h = absurd (grind (arith, h))

left_turned : (k : ℕ) (c d : Contact) → left_asker k ≢ left_server k → contact_at write_index_left (left_asker k) ≡ Some c → contact_at write_index_left (left_server k) ≡ Some d
    → (d ≡ turned_contact c) × (c ≡ turned_contact d)
left_turned zero c d apart one other = (grind (arith, one, other), grind (arith, one, other))
left_turned (suc zero) c d apart one other = (grind (arith, one, other), grind (arith, one, other))
left_turned (suc (suc zero)) c d apart one other = (grind (arith, one, other), grind (arith, one, other))
left_turned (suc (suc (suc zero))) c d apart one other = absurd (apart refl)
left_turned (suc (suc (suc (suc zero)))) c d apart one other = absurd (apart refl)
left_turned (suc (suc (suc (suc (suc k))))) c d apart one other = absurd (apart refl)

left_joined : (k q v : ℕ) → contact_at write_index_left (left_asker k) ≡ Some (asks q v) → contact_at write_index_left (left_server k) ≡ Some (serves q v)
    → Contains (write_index_left).joints (joint (left_asker k) (left_server k))
left_joined zero q v asked served = (0, omega arith, refl)
left_joined (suc zero) q v asked served = (1, omega arith, refl)
left_joined (suc (suc zero)) q v asked served = (2, omega arith, refl)
left_joined (suc (suc (suc zero))) q v asked served = absurd (grind (arith, served))
left_joined (suc (suc (suc (suc zero)))) q v asked served = absurd (grind (arith, asked))
left_joined (suc (suc (suc (suc (suc k))))) q v asked served = absurd (grind (arith, asked))

left_not_back : (k q v : ℕ) → contact_at write_index_left (left_server k) ≡ Some (asks q v) → contact_at write_index_left (left_asker k) ≡ Some (serves q v) → ⊥
left_not_back zero q v asked served = grind (arith, asked)
left_not_back (suc zero) q v asked served = grind (arith, asked)
left_not_back (suc (suc zero)) q v asked served = grind (arith, asked)
left_not_back (suc (suc (suc zero))) q v asked served = grind (arith, served)
left_not_back (suc (suc (suc (suc zero)))) q v asked served = grind (arith, asked)
left_not_back (suc (suc (suc (suc (suc k))))) q v asked served = grind (arith, asked)

left_paired : IsPaired left_wiring left_class (write_index_left) left_asker left_server
left_paired =
    record {
      plans = ((refl, (refl, (refl, tt))), ((refl, (refl, (refl, tt))), tt));
      links = (refl, (refl, (refl, tt)));
      which = left_which;
      turned = left_turned;
      joined = left_joined;
      not_back = left_not_back;
    }

left_connects : (d e : End) → Contains (write_index_left).joints (joint d e) → Connects left_wiring (write_index_left) d e
left_connects d e (zero, l, at) =
    subst (λ (j : Joint). Connects left_wiring (write_index_left) j.asking j.serving) at (
      0,
      0,
      1,
      refl,
      refl,
      (
        place 0 (PartEnd 0 2),
        inl (index_unjoined, joint (ResultEnd 3) (PartEnd 0 2), refl, refl, (0, omega arith, refl), inl (refl, refl)),
        refl,
      ),
    )
left_connects d e (suc zero, l, at) =
    subst (λ (j : Joint). Connects left_wiring (write_index_left) j.asking j.serving) at (
      0,
      8,
      1,
      refl,
      refl,
      (
        place 0 (PartEnd 1 0),
        inl (index_unjoined, joint (PartEnd 0 0) (PartEnd 1 0), refl, refl, (1, omega arith, refl), inl (refl, refl)),
        refl,
      ),
    )
left_connects d e (suc (suc zero), l, at) =
    subst (λ (j : Joint). Connects left_wiring (write_index_left) j.asking j.serving) at (
      8,
      0,
      3,
      refl,
      refl,
      (
        place 0 (ResultEnd 2),
        inl (index_unjoined, joint (PartEnd 0 1) (ResultEnd 2), refl, refl, (2, omega arith, refl), inl (refl, refl)),
        (
          place 1 (ResultEnd 2),
          inr (link 0 (ResultEnd 2) 1 (ResultEnd 2), (2, omega arith, refl), inl (refl, refl)),
          (place 1 (ImportEnd 0 2), inl (array_name a 1 8, joint (ResultEnd 2) (ImportEnd 0 2), refl, refl, (2, omega arith, refl), inl (refl, refl)), refl),
        ),
      ),
    )
left_connects d e (suc (suc (suc k)), l, at) = absurd (omega (arith, l))

left_right : IsRight index_unjoined
left_right = (((0, 0, refl, refl), refl, refl), (((0, 8, refl, refl), refl, refl), (((8, 0, refl, refl), refl, refl), tt)))

left_result : (h : ℕ) (c : Contact) → slice_get (contacts_of Com) h ≡ Some c → slice_get (contacts_of (Fun array_type Com)) (3 + h) ≡ Some c
left_result zero c there = there
left_result (suc h) c there = absurd (grind (arith, there))

left_joining : IsJoining left_wiring (write_index_left)
left_joining =
    record {
      parts = refl;
      imports = refl;
      outcome = refl;
      weight = refl;
      right = (((0, 0, refl, refl), refl, refl), (((0, 8, refl, refl), refl, refl), (((8, 0, refl, refl), refl, refl), tt)));
      result = left_result;
      fits = paired_fits left_wiring left_class (write_index_left) left_asker left_server left_paired;
      joints = λ d e. (left_connects d e, paired_joint left_wiring left_class (write_index_left) left_asker left_server left_paired d e);
    }

-- it realises the function, and the name of an array realises that
pub writer_writes : WriterWrites
writer_writes r joined =
    let name = array_name_is_realised a 1 8 (omega arith, omega arith) in
    let (suits, realises) = writer_is_realised.means (array_name a 1 8) r (Import a) (λ i j none there. absurd (none_in_empty i none)) name.suits name.means joined in
    (suits.regular, realises)

-- joinings are one but for the order of joints, and that is free
pub unjoined_does_not_write : JoiningIsOne → OrderIsFree → UnjoinedDoesNotWrite
unjoined_does_not_write one free r joined realises =
    let same = one left_wiring write_index_left r left_joining joined.joining in
    let both = free r write_index_left joined.joining.right left_joining.right same in applied_index_is_told (both.1 (App writer (Import a)) realises)

pub unjoined_is_no_writer : UnjoinedIsNoWriter
unjoined_is_no_writer realises =
    let name = array_name_is_realised a 1 8 (omega arith, omega arith) in
    applied_index_is_told
    (realises.means (array_name a 1 8) write_index_left (Import a) (λ i j none there. absurd (none_in_empty i none)) name.suits name.means
    (record {
      fits = applied_fits array_type Com index_unjoined (array_name a 1 8) left_right (array_right a 1 8) refl refl;
      joining = left_joining;
    })).1
