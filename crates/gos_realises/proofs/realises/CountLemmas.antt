-- How many handshakes a type has: a product and a function those of both sides, and each type at least one.
use Rattle.std.specs.Prelude.{◌≡◌, ◌+◌, ◌<◌, ◌++◌, length, ℕ, Option, Some, None, slice_get, List, [], ◌∷◌}
use Rattle.std.proofs.Common.{refl, arith, length-append, ◌∙◌}
use Rattle.std.proofs.lemmas.List.{length-map}
use Rattle.std.proofs.lemmas.Option.{slice_get_within}
use Rattle.gos_types.specs.Types.{Type', Com, Exp, Var, Pair, Fun, IsDone}
use Rattle.gos_plan.specs.Kinds.{Share, contacts_of, other_side, turned_contact, part_contacts, Contact, Part}
use Rattle.gos_plan.specs.Plans.{turned_if}
use Rattle.gos_plan.specs.Size.{numbers_of}
use Rattle.gos_realises.specs.realises.Regular.{count}
use Rattle.gos_realises.specs.realises.Slim.{all_shakes}

pub count_pair : (a b : Type') → count (Pair a b) ≡ count a + count b
count_pair a b = simp (length-append, length-map) refl

pub count_fun : (a b : Type') → count (Fun a b) ≡ count a + count b
count_fun a b = simp (length-append, length-map) refl

pub some_shake : (t : Type') → 0 < count t
some_shake Com = omega arith
some_shake (Exp w) = omega arith
some_shake (Var w) = omega arith
some_shake (Pair a b) = let first = some_shake a in let sum = count_pair a b in omega (arith, first, sum)
some_shake (Fun a b) = let first = some_shake a in let sum = count_fun a b in omega (arith, first, sum)

-- a command and an expression have one
pub done_count : (t : Type') → IsDone t → count t ≡ 1
done_count Com done = refl
done_count (Exp w) done = refl
done_count (Var w) done = absurd done
done_count (Pair a b) done = absurd done
done_count (Fun a b) done = absurd done

pub share_count : (t : Type') → length (part_contacts (Share t)) ≡ count t + (count t + count t)
share_count t =
    length-append (other_side (contacts_of t)) (contacts_of t ++ contacts_of t)
    ∙ (λ l. length-map (contacts_of t) turned_contact l + length-append (contacts_of t) (contacts_of t) l)

pub below_count : (t : Type') (h : ℕ) (c : Contact) → turned_if (slice_get (contacts_of t) h) ≡ Some c → h < count t
below_count t h c e = by_contact (slice_get (contacts_of t) h) refl e
  where
    by_contact : (o : Option Contact) → slice_get (contacts_of t) h ≡ o → turned_if o ≡ Some c → h < count t
    by_contact None none there = absurd (cc there)
    by_contact (Some d) at there = slice_get_within (contacts_of t) h d at

pub shakes-append : (ks ls : List Part) → all_shakes (ks ++ ls) ≡ all_shakes ks + all_shakes ls
shakes-append [] ls = omega arith
shakes-append (k ∷ ks) ls = let rest = shakes-append ks ls in omega (arith, rest)

pub numbers-append : (ks ls : List Part) → numbers_of (ks ++ ls) ≡ numbers_of ks + numbers_of ls
numbers-append [] ls = omega arith
numbers-append (k ∷ ks) ls = let rest = numbers-append ks ls in omega (arith, rest)
