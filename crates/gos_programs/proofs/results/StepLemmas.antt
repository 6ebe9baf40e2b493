-- Steps and labels keep types, and a step keeps the widths of the locations that stay.
use Rattle.gos_model.specs.Accesses.{IsArrayImport}
use Rattle.std.specs.Prelude.{◌≡◌, ℕ, zero, suc, ◌+◌, ◌-◌, ◌^◌, ◌<◌, List, [], ◌∷◌, replicate, set, ◌⊎◌, Bool, true, false, Option, Some, None, nat_eq, nat_lt, if◌then◌else◌}
use Rattle.std.proofs.Common.{arith, refl, sym, ap, subst, inl, inr, ◌∙◌}
use Rattle.std.proofs.lemmas.Nat.{pow_pos, mod_below, and_le_l, or_lt, xor_lt}
use Rattle.std.proofs.lemmas.List.{length-set, length-replicate}
use Rattle.std.proofs.lemmas.Option.{none-some, same_Some}
use Rattle.gos_types.specs.Types.{Type', Com, Exp, Var, Fun, Pair}
use Rattle.gos_types.proofs.TypeLemmas.{same_expression_width, same_variable_width}
use Rattle.gos_model.specs.Terms.{Op, Add, Sub, And, Or, Xor, Eq, Less, Term, Skip, Lit, Import, Seq, Par, If, While, Assign, Deref, New, Not, Bin, Loc, Scope, Wait, Held, Put, result_of, result_width, complement, Name, App, Both, NewArray, Arr}
use Rattle.gos_model.specs.Substitution.{instantiate}
use Rattle.gos_model.specs.Typing.{Imports, import_type, index_width, array_type}
use Rattle.gos_model.specs.Stores.{Entry, variable_at, Store, entry_at, store_put, without, array_at}
use Rattle.gos_model.specs.Reach.{Rel}
use Rattle.gos_model.specs.Steps.{Computes, Locates}
use Rattle.gos_model.specs.Labels.{Label, IsAnswer}
use Rattle.gos_model.proofs.NumberLemmas.{number_cases}
use Rattle.gos_programs.specs.contexts.Contexts.{Context, SeqFirst, ParLeft, ParRight, IfTest, BinLeft, HeldRight, NotOf, AssignRight, ScopeBody, ReadIndex, WriteIndex, plug, ReadAt, WriteAt}
use Rattle.gos_programs.specs.contexts.Standing.{Present}
use Rattle.gos_programs.proofs.contexts.StoreLemmas.{not_both, first_at, later_at, without_same, without_other, numbered, put_same, put_other}
use Rattle.gos_programs.proofs.contexts.BackwardLemmas.{OneLabel}
use Rattle.gos_programs.specs.results.HasTypes.{Widths, widths_of, FitIn, EntryFits, NumbersFit, AnswersWith, HasType}
use Rattle.gos_programs.proofs.results.TypeLemmas.{some_numbers, widened}
use Rattle.gos_programs.proofs.results.PutLemmas.{instantiate_typed, KeepsType}

-- what an operator computes has its bits
result_fits : (op : Op) (w a b : ℕ) → a < 2 ^ w → b < 2 ^ w → result_of op w a b < 2 ^ result_width op w
result_fits Add w a b f g = mod_below (a + b) (2 ^ w) (pow_pos w)
result_fits Sub w a b f g = mod_below (a + 2 ^ w - b) (2 ^ w) (pow_pos w)
result_fits And w a b f g = omega (arith, f, and_le_l a b)
result_fits Or w a b f g = or_lt w a b f g
result_fits Xor w a b f g = xor_lt w a b f g
result_fits Eq w a b f g = one_bit (nat_eq a b)
  where
    one_bit : (t : Bool) → (if t then 1 else 0) < 2 ^ 1
    one_bit true = omega arith
    one_bit false = omega arith
result_fits Less w a b f g = one_bit (nat_lt a b)
  where
    one_bit : (t : Bool) → (if t then 1 else 0) < 2 ^ 1
    one_bit true = omega arith
    one_bit false = omega arith

complement_fits : (w a : ℕ) → complement w a < 2 ^ w
complement_fits w a = omega (arith, pow_pos w)

-- the widths of either store
abbrev pub either : Store → Store → Widths
either s u l n w = widths_of s l n w ⊎ widths_of u l n w

-- the locations that stay keep their widths, and how many numbers they have
abbrev pub WidthsStay : Store → Store → Type 0
WidthsStay s u = (l n w : ℕ) → widths_of s l n w → Present u l → widths_of u l n w

-- a step keeps types, over the widths of both stores, and what is known of the store
abbrev pub Kept : Imports → Store → Store → Rel
Kept i s u a b =
    (t : Type') → HasType (widths_of s) i [] a t → NumbersFit s → HasType (either s u) i [] b t × NumbersFit u × WidthsStay s u

pub over_both : (i : Imports) (s u : Store) (m : Term) (g : List Type') (t : Type') → HasType (widths_of s) i g m t → HasType (either s u) i g m t
over_both i s u m g t h = widened (widths_of s) (either s u) i (λ l n w x. inl x) m g g t (λ n a x. x) h

pub kept_in : (i : Imports) (s u : Store) (c : Context) (a b : Term) → Kept i s u a b → Kept i s u (plug c a) (plug c b)
kept_in i s u (SeqFirst n) a b q t (d, h, k) f = let r = q Com h f in ((d, r.0, over_both i s u n [] t k), r.1, r.2)
kept_in i s u (ParLeft n) a b q t (e, h, k) f = let r = q Com h f in ((e, r.0, over_both i s u n [] Com k), r.1, r.2)
kept_in i s u (ParRight n) a b q t (e, h, k) f = let r = q Com k f in ((e, over_both i s u n [] Com h, r.0), r.1, r.2)
kept_in i s u (IfTest n p) a b q t (d, h, k, l) f =
    let r = q (Exp 1) h f in ((d, r.0, over_both i s u n [] t k, over_both i s u p [] t l), r.1, r.2)
kept_in i s u (BinLeft op n) a b q t (w, e, h, k) f = let r = q (Exp w) h f in ((w, e, r.0, over_both i s u n [] (Exp w) k), r.1, r.2)
kept_in i s u (HeldRight n op) a b q t (w, e, fits, h) f = let r = q (Exp w) h f in ((w, e, fits, r.0), r.1, r.2)
kept_in i s u NotOf a b q t (w, e, h) f = let r = q (Exp w) h f in ((w, e, r.0), r.1, r.2)
kept_in i s u (AssignRight n) a b q t (w, e, h, k) f = let r = q (Exp w) k f in ((w, e, over_both i s u n [] (Var w) h, r.0), r.1, r.2)
kept_in i s u (ScopeBody l) a b q t (d, h) f = let r = q t h f in ((d, r.0), r.1, r.2)
kept_in i s u (ReadIndex x n) a b q t (w, e, (c, h, (d, v, pair, k, l))) f =
    let r = q v l f in ((w, e, (c, h, (d, v, pair, over_both i s u n [] d k, r.0))), r.1, r.2)
kept_in i s u (WriteIndex x n j) a b q t (w, e, fits, (c, h, (d, v, pair, k, l))) f =
    let r = q v l f in ((w, e, fits, (c, h, (d, v, pair, over_both i s u n [] d k, r.0))), r.1, r.2)
kept_in i s u (ReadAt x) a b q t (w, e, (c, h, k)) f = let r = q c k f in ((w, e, (c, over_both i s u (Arr x) [] (Fun c (Var w)) h, r.0)), r.1, r.2)
kept_in i s u (WriteAt x j) a b q t (w, e, fits, (c, h, k)) f =
    let r = q c k f in ((w, e, fits, (c, over_both i s u (Arr x) [] (Fun c (Var w)) h, r.0)), r.1, r.2)

-- a step that leaves the store as it is
pub same_store : (i : Imports) (s u : Store) (b : Term) (t : Type') → u ≡ s → NumbersFit s → HasType (widths_of s) i [] b t
    → HasType (either s u) i [] b t × NumbersFit u × WidthsStay s u
same_store i s u b t e f h = (
  over_both i s u b [] t h,
  subst NumbersFit (sym e) f,
  λ l n w x here. subst (λ (y : Store). widths_of y l n w) (sym e) x,
)

to_term : (ws : Widths) (i : Imports) (t : Type') (a b : Term) → b ≡ a → HasType ws i [] a t → HasType ws i [] b t
to_term ws i t a b e h = subst (λ (x : Term). HasType ws i [] x t) (sym e) h

-- what is known of a literal of an expression's type
literal : (ws : Widths) (i : Imports) (m : Term) (k v w : ℕ) → m ≡ Lit k v → HasType ws i [] m (Exp w) → (w ≡ v) × (k < 2 ^ v)
literal ws i m k v w e h =
    let here : HasType ws i [] (Lit k v) (Exp w) = subst (λ (x : Term). HasType ws i [] x (Exp w)) e h in
    (same_expression_width w v here.0, here.1)

wide_as : (s : Store) (l n v w : ℕ) (e : Entry) → w ≡ v → entry_at s l ≡ Some e → widths_of s l n v → w ≡ e.width
wide_as s l n v w e is here (d, at, wide, long) = is ∙ (sym wide ∙ ap (λ x. x.width) (same_Some d e (sym at ∙ here)))

outcome_width : (a b : Type') (v w : ℕ) → Fun a (Var v) ≡ Fun b (Var w) → v ≡ w
outcome_width a b v w e = let outcome : Var v ≡ Var w = cc e in same_variable_width v w outcome

location : (i : Imports) (s : Store) (m : Term) (l j w : ℕ) (e : Entry) → Locates m l j → entry_at s l ≡ Some e → HasType (widths_of s) i [] m (Var w)
    → w ≡ e.width
location i s m l j w e (inl (is, first)) here h =
    let at : HasType (widths_of s) i [] (Loc l) (Var w) = subst (λ (x : Term). HasType (widths_of s) i [] x (Var w)) is h in
    wide_as s l 1 at.0 w e (same_variable_width w at.0 at.1) here at.2
location i s m l j w e (inr (u, is)) here h =
    let (a, (n, v, array, long, at), index) = subst (λ (x : Term). HasType (widths_of s) i [] x (Var w)) is h in
    wide_as s l n v w e (outcome_width a (Exp (index_width n)) w v array) here at

-- a write
set_fits : (w : ℕ) (ks : List ℕ) (j k : ℕ) → k < 2 ^ w → FitIn w ks → FitIn w (set ks j k)
set_fits w [] j k fits f i n at = f i n at
set_fits w (m ∷ ks) zero k fits f zero n at = subst (λ (x : ℕ). x < 2 ^ w) (same_Some k n at) fits
set_fits w (m ∷ ks) zero k fits f (suc i) n at = f (suc i) n at
set_fits w (m ∷ ks) (suc j) k fits f zero n at = f zero n at
set_fits w (m ∷ ks) (suc j) k fits f (suc i) n at = set_fits w ks j k fits (λ a b h. f (suc a) b h) i n at

put_fits : (s : Store) (x j k : ℕ) (e : Entry) → entry_at s x ≡ Some e → k < 2 ^ e.width → NumbersFit s → NumbersFit (store_put s x j k)
put_fits s x j k e here fits f l d at =
    let was : EntryFits e = f x e here in
    number_cases x l
    (λ same yes.
    let o : Entry = record e { numbers = set e.numbers j k } in
    let there : entry_at (store_put s x j k) l ≡ Some o =
    subst (λ (y : ℕ). entry_at (store_put s x j k) y ≡ Some o) same (put_same s x j k ∙ ap (numbered j k) here) in
    subst EntryFits (same_Some o d (sym there ∙ at))
    (subst (λ (n : ℕ). 0 < n) (sym (length-set e.numbers j k)) was.0, set_fits e.width e.numbers j k fits was.1))
    (λ other no. f l d (sym (put_other s x j k l other) ∙ at))

put_stays : (s : Store) (x j k : ℕ) → WidthsStay s (store_put s x j k)
put_stays s x j k l n w (e, at, wide, one) here =
    number_cases x l
    (λ same yes.
    let o : Entry = record e { numbers = set e.numbers j k } in (
      o,
      subst (λ (y : ℕ). entry_at (store_put s x j k) y ≡ Some o) same
          (put_same s x j k ∙ ap (numbered j k) (subst (λ (y : ℕ). entry_at s y ≡ Some e) (sym same) at)),
      wide,
      length-set e.numbers j k ∙ one,
    ))
    (λ other no. (e, put_other s x j k l other ∙ at, wide, one))

-- a new variable
alone_fits : (w k : ℕ) → k < 2 ^ w → FitIn w (k ∷ [])
alone_fits w k fits zero n at = subst (λ (x : ℕ). x < 2 ^ w) (same_Some k n at) fits
alone_fits w k fits (suc i) n at = absurd (none-some n at)

pub variable_fits : (l w k : ℕ) → k < 2 ^ w → EntryFits (variable_at l w k)
variable_fits l w k fits = (omega arith, alone_fits w k fits)

zeros_fit : (n w : ℕ) → FitIn w (replicate n 0)
zeros_fit zero w j k at = absurd (none-some k at)
zeros_fit (suc n) w zero k at = subst (λ (x : ℕ). x < 2 ^ w) (same_Some 0 k at) (pow_pos w)
zeros_fit (suc n) w (suc j) k at = zeros_fit n w j k at

array_fits : (l n w : ℕ) → 0 < n → EntryFits (array_at l w n)
array_fits l n w some = (subst (λ (x : ℕ). 0 < x) (sym (length-replicate n 0)) some, zeros_fit n w)

new_fits : (s : Store) (e : Entry) → EntryFits e → NumbersFit s → NumbersFit (e ∷ s)
new_fits s e fits f l d at =
    let x : ℕ = e.place in
    number_cases x l
    (λ same yes. subst EntryFits (same_Some e d (sym (first_at e s l same) ∙ at)) fits)
    (λ other no. f l d (sym (later_at e s l other) ∙ at))

new_stays : (s : Store) (o : Entry) → entry_at s o.place ≡ None → WidthsStay s (o ∷ s)
new_stays s o absent l n v (e, at, wide, one) here =
    let x : ℕ = o.place in
    number_cases x l
    (λ same yes. absurd (not_both (entry_at s l) e (subst (λ (y : ℕ). entry_at s y ≡ None) same absent) at))
    (λ other no. (e, later_at o s l other ∙ at, wide, one))

-- the end of a block
end_fits : (s : Store) (x : ℕ) → NumbersFit s → NumbersFit (without s x)
end_fits s x f l d at =
    number_cases x l
    (λ same yes. absurd (not_both (entry_at (without s x) l) d (subst (λ (y : ℕ). entry_at (without s x) y ≡ None) same (without_same s x)) at))
    (λ other no. f l d (sym (without_other s x l other) ∙ at))

end_stays : (s : Store) (x : ℕ) → WidthsStay s (without s x)
end_stays s x l n w (e, at, wide, one) (d, here) =
    number_cases x l
    (λ same yes. absurd (not_both (entry_at (without s x) l) d (subst (λ (y : ℕ). entry_at (without s x) y ≡ None) same (without_same s x)) here))
    (λ other no. (e, without_other s x l other ∙ at, wide, one))

after : (i : Imports) (s u v : Store) (b : Term) (t : Type') → u ≡ v → HasType (either s v) i [] b t × NumbersFit v × WidthsStay s v
    → HasType (either s u) i [] b t × NumbersFit u × WidthsStay s u
after i s u v b t e h = subst (λ (y : Store). HasType (either s y) i [] b t × NumbersFit y × WidthsStay s y) (sym e) h

pub row_kept : (i : Imports) (s u : Store) (a b : Term) → Computes s u a b → Kept i s u a b
row_kept i s u (Seq m n) b (em, et, es) t (d, h, k) f = same_store i s u b t es f (to_term (widths_of s) i t n b et k)
row_kept i s u (Par m n) b (em, en, et, es) t (e, h, k) f = same_store i s u b t es f (to_term (widths_of s) i t Skip b et e)
row_kept i s u (If m n p) b (inl (em, et), es) t (d, h, k, l) f = same_store i s u b t es f (to_term (widths_of s) i t n b et k)
row_kept i s u (If m n p) b (inr (em, et), es) t (d, h, k, l) f = same_store i s u b t es f (to_term (widths_of s) i t p b et l)
row_kept i s u (While m n) b (et, es) t (e, h, k) f =
    same_store i s u b t es f
    (to_term (widths_of s) i t (If m (Seq n (While m n)) Skip) b et
    (subst (λ (x : Type'). HasType (widths_of s) i [] (If m (Seq n (While m n)) Skip) x) (sym e) (tt, h, (tt, k, (refl, h, k)), refl)))
row_kept i s u (Bin op m n) b (k, v, em, et, es) t (w, e, h, l) f =
    let fits = literal (widths_of s) i m k v w em h in
    same_store i s u b t es f
    (to_term (widths_of s) i t (Held k op n) b et (w, e, subst (λ (x : ℕ). k < 2 ^ x) (sym fits.0) fits.1, l))
row_kept i s u (Held k op n) b (j, v, en, et, es) t (w, e, small, h) f =
    let fits = literal (widths_of s) i n j v w en h in
    same_store i s u b t es f
    (to_term (widths_of s) i t (Lit (result_of op v k j) (result_width op v)) b et
    (e ∙ ap (λ x. Exp (result_width op x)) fits.0, result_fits op v k j (subst (λ (x : ℕ). k < 2 ^ x) fits.0 small) fits.1))
row_kept i s u (Not m) b (k, v, em, et, es) t (w, e, h) f =
    let fits = literal (widths_of s) i m k v w em h in
    same_store i s u b t es f
    (to_term (widths_of s) i t (Lit (complement v k) v) b et (e ∙ ap (λ x. Exp x) fits.0, complement_fits v k))
row_kept i s u (Assign m n) b (k, v, en, et, es) t (w, e, h, l) f =
    let fits = literal (widths_of s) i n k v w en l in
    same_store i s u b t es f (to_term (widths_of s) i t (Put m k) b et (w, e, subst (λ (x : ℕ). k < 2 ^ x) (sym fits.0) fits.1, h))
row_kept i s u (Put m k) b (d, j, old, em, here, has, et, es) t (w, e, small, h) f =
    let wide = location i s m d.place j w d em here h in
    after i s u (store_put s d.place j k) b t es (
      to_term (either s (store_put s d.place j k)) i t Skip b et e,
      put_fits s d.place j k d here (subst (λ (x : ℕ). k < 2 ^ x) wide small) f,
      put_stays s d.place j k,
    )
row_kept i s u (Deref m) b (d, j, old, em, here, has, et, es) t (w, e, h) f =
    let wide = location i s m d.place j w d em here h in
    same_store i s u b t es f (to_term (widths_of s) i t (Lit old d.width) b et (e ∙ ap (λ x. Exp x) wide, (f d.place d here).1 j old has))
row_kept i s u (New w m) b (l, absent, et, es) t (d, h) f =
    let o : Entry = variable_at l w 0 in
    after i s u (o ∷ s) b t es (
      to_term (either s (o ∷ s)) i t (Scope l (instantiate m (Loc l))) b et
          (d, instantiate_typed (either s (o ∷ s)) i m (Loc l) (Var w) t (over_both i s (o ∷ s) m (Var w ∷ []) t h) (w, refl, inr (o, first_at o s l refl, refl, refl))),
      new_fits s o (variable_fits l w 0 (pow_pos w)) f,
      new_stays s o absent,
    )
row_kept i s u (NewArray n w m) b (l, absent, et, es) t (d, some, h) f =
    let o : Entry = array_at l w n in
    let a : Type' = array_type n w in
    after i s u (o ∷ s) b t es (
      to_term (either s (o ∷ s)) i t (Scope l (instantiate m (Arr l))) b et
          (d, instantiate_typed (either s (o ∷ s)) i m (Arr l) a t (over_both i s (o ∷ s) m (a ∷ []) t h) (n, w, refl, some, inr (o, first_at o s l refl, refl, length-replicate n 0))),
      new_fits s o (array_fits l n w (some_numbers n some)) f,
      new_stays s o absent,
    )
row_kept i s u (Scope l m) b (is, et, es) t (d, h) f =
    after i s u (without s l) b t es
    (to_term (either s (without s l)) i t m b et (over_both i s (without s l) m [] t h), end_fits s l f, end_stays s l)
row_kept i s u m b h t k f = absurd h

-- an answer leaves a value of the type with which it answers
answer_typed : (ws : Widths) (i : Imports) (o : Option Type') (n k : ℕ) (b : Term) (t : Type') → IsAnswer o n k b → AnswersWith o n t → HasType ws i [] b t
answer_typed ws i (Some Com) (suc zero) k b t (e, is) h = to_term ws i t Skip b is h
answer_typed ws i (Some (Exp w)) (suc zero) k b t (fits, is) h = to_term ws i t (Lit k w) b is (h, fits)
answer_typed ws i (Some (Var w)) (suc zero) k b t (fits, is) h = to_term ws i t (Lit k w) b is (h, fits)
answer_typed ws i (Some (Var w)) (suc (suc (suc zero))) k b t (e, is) h = to_term ws i t Skip b is h
answer_typed ws i o n k b t h g = absurd h

answers_as : (o p : Option Type') (n : ℕ) (t : Type') → o ≡ p → AnswersWith p n t → AnswersWith o n t
answers_as o p n t e h = subst (λ (x : Option Type'). AnswersWith x n t) (sym e) h

-- the port of an access that waits takes a pair
port_type : (i : Imports) (x : Name) (c w n : ℕ) (a : Type') (v : ℕ) → IsArrayImport i x c w → n < 2 → AnswersWith (import_type i x) n (Fun a (Var v))
    → Fun a (Var v) ≡ Fun (Pair (Exp c) (Exp c)) (Var w)
port_type i x c w zero a v array small h = subst (λ (o : Option Type'). AnswersWith o 0 (Fun a (Var v))) array h
port_type i x c w (suc zero) a v array small h = subst (λ (o : Option Type'). AnswersWith o 1 (Fun a (Var v))) array h
port_type i x c w (suc (suc n)) a v array small h = absurd (omega (arith, small))

waits_as : (i : Imports) (x : Name) (c w n : ℕ) → n < 2 → IsArrayImport i x c w → AnswersWith (import_type i x) n (Fun (Pair (Exp c) (Exp c)) (Var w))
waits_as i x c w zero small array = answers_as (import_type i x) (Some (Fun (Exp c) (Var w))) 0 (Fun (Pair (Exp c) (Exp c)) (Var w)) array refl
waits_as i x c w (suc zero) small array = answers_as (import_type i x) (Some (Fun (Exp c) (Var w))) 1 (Fun (Pair (Exp c) (Exp c)) (Var w)) array refl
waits_as i x c w (suc (suc n)) small array = absurd (omega (arith, small))

argument_type : (a b : Type') (v w : ℕ) → Fun a (Var v) ≡ Fun b (Var w) → a ≡ b
argument_type a b v w e = cc e

pair_sides : (a b c d : Type') → Pair a b ≡ Pair c d → (a ≡ c) × (b ≡ d)
pair_sides a b c d e = (cc e, cc e)

-- an access, with an index of its type as it was written and as it is now
access : (ws : Widths) (i : Imports) (x : Name) (c w v s : ℕ) (n j : Term) → s < 2 → IsArrayImport i x c w → v ≡ w
    → HasType ws i [] n (Exp c) → HasType ws i [] j (Exp c) → HasType ws i [] (App (Wait x s) (Both n j)) (Var v)
access ws i x c w v s n j small array wide h k =
    subst (λ (u : ℕ). HasType ws i [] (App (Wait x s) (Both n j)) (Var u)) (sym wide)
    (Pair (Exp c) (Exp c), waits_as i x c w s small array, (Exp c, Exp c, refl, h, k))

-- what is known of an access before it begins, and while it waits
fresh_index : (ws : Widths) (i : Imports) (x : Name) (c w v : ℕ) (m n : Term) → IsArrayImport i x c w → m ≡ App (Import x) n
    → HasType ws i [] m (Var v) → (v ≡ w) × HasType ws i [] n (Exp c)
fresh_index ws i x c w v m n array em h =
    let (a, here, k) = subst (λ (y : Term). HasType ws i [] y (Var v)) em h in
    let same : Fun a (Var v) ≡ Fun (Exp c) (Var w) = same_Some (Fun a (Var v)) (Fun (Exp c) (Var w)) (sym here ∙ array) in
    (outcome_width a (Exp c) v w same, subst (λ (t : Type'). HasType ws i [] n t) (argument_type a (Exp c) v w same) k)

waiting_index : (ws : Widths) (i : Imports) (x : Name) (c w v s : ℕ) (m n j : Term) → s < 2 → IsArrayImport i x c w → m ≡ App (Wait x s) (Both n j)
    → HasType ws i [] m (Var v) → (v ≡ w) × HasType ws i [] n (Exp c) × HasType ws i [] j (Exp c)
waiting_index ws i x c w v s m n j small array em h =
    let (a, here, (b, d, pair, k, l)) = subst (λ (y : Term). HasType ws i [] y (Var v)) em h in
    let same = port_type i x c w s a v array small here in
    let sides = pair_sides b d (Exp c) (Exp c) (sym pair ∙ argument_type a (Pair (Exp c) (Exp c)) v w same) in (
      outcome_width a (Pair (Exp c) (Exp c)) v w same,
      subst (λ (t : Type'). HasType ws i [] n t) sides.0 k,
      subst (λ (t : Type'). HasType ws i [] j t) sides.1 l,
    )

pub label_keeps : (ws : Widths) (i : Imports) (o : Label) (a b : Term) → OneLabel i o a b → KeepsType ws i a b
label_keeps ws i o (Import x) b (inl (inl (here, e, et))) t h =
    to_term ws i t (Wait x 1) b et (answers_as (import_type i x) (Some Com) 1 t here (same_Some t Com (sym h ∙ here)))
label_keeps ws i o (Import x) b (inl (inr (w, here, e, et))) t h =
    to_term ws i t (Wait x 1) b et (answers_as (import_type i x) (Some (Exp w)) 1 t here (same_Some t (Exp w) (sym h ∙ here)))
label_keeps ws i o (Deref m) b (inl (inl (x, w, em, here, e, et))) t (v, is, h) =
    let at : HasType ws i [] (Import x) (Var v) = subst (λ (y : Term). HasType ws i [] y (Var v)) em h in
    to_term ws i t (Wait x 1) b et
    (answers_as (import_type i x) (Some (Var w)) 1 t here (is ∙ ap (λ y. Exp y) (same_variable_width v w (same_Some (Var v) (Var w) (sym at ∙ here)))))
label_keeps ws i o (Put m k) b (inl (inl (x, w, em, here, e, et))) t (v, is, fits, h) =
    to_term ws i t (Wait x 3) b et (answers_as (import_type i x) (Some (Var w)) 3 t here is)
label_keeps ws i o (Wait x n) b (inr (p, e, h)) t k = answer_typed ws i (import_type i x) n o.value b t h k
label_keeps ws i o (Deref m) b (inl (inr (x, p, (c, w, n, array, inl (em, ee, ek, et))))) t (v, is, h) =
    let known = fresh_index ws i x c w v m n array em h in
    to_term ws i t (Deref (App (Wait x 1) (Both n n))) b et (v, is, access ws i x c w v 1 n n (omega arith) array known.0 known.1 known.1)
label_keeps ws i o (Deref m) b (inl (inr (x, p, (c, w, n, array, inr (j, em, ej, ee, et))))) t (v, is, h) =
    let known = waiting_index ws i x c w v 0 m n j (omega arith) array em h in
    to_term ws i t (Deref (App (Wait x 1) (Both n j))) b et (v, is, access ws i x c w v 1 n j (omega arith) array known.0 known.1 known.2)
label_keeps ws i o (Deref m) b (inr (x, p, (c, w, n, j, array, em, inl (ee, ek, et)))) t (v, is, h) =
    let known = waiting_index ws i x c w v 1 m n j (omega arith) array em h in
    to_term ws i t (Deref (App (Wait x 0) (Both n n))) b et (v, is, access ws i x c w v 0 n n (omega arith) array known.0 known.1 known.1)
label_keeps ws i o (Deref m) b (inr (x, p, (c, w, n, j, array, em, inr (ee, fits, et)))) t (v, is, h) =
    let known = waiting_index ws i x c w v 1 m n j (omega arith) array em h in
    to_term ws i t (Lit o.value w) b et (is ∙ ap (λ y. Exp y) known.0, fits)
label_keeps ws i o (Put m k) b (inl (inr (x, p, (c, w, n, array, inl (em, ee, ek, et))))) t (v, is, fits, h) =
    let known = fresh_index ws i x c w v m n array em h in
    to_term ws i t (Put (App (Wait x 1) (Both n n)) k) b et (v, is, fits, access ws i x c w v 1 n n (omega arith) array known.0 known.1 known.1)
label_keeps ws i o (Put m k) b (inl (inr (x, p, (c, w, n, array, inr (j, em, ej, ee, et))))) t (v, is, fits, h) =
    let known = waiting_index ws i x c w v 0 m n j (omega arith) array em h in
    to_term ws i t (Put (App (Wait x 1) (Both n j)) k) b et (v, is, fits, access ws i x c w v 1 n j (omega arith) array known.0 known.1 known.2)
label_keeps ws i o (Put m k) b (inr (x, p, (c, w, n, j, array, em, inl (ee, ek, et)))) t (v, is, fits, h) =
    let known = waiting_index ws i x c w v 1 m n j (omega arith) array em h in
    to_term ws i t (Put (App (Wait x 0) (Both n n)) k) b et (v, is, fits, access ws i x c w v 0 n n (omega arith) array known.0 known.1 known.1)
label_keeps ws i o (Put m k) b (inr (x, p, (c, w, n, j, array, em, inr (ee, ek, et)))) t (v, is, fits, h) = to_term ws i t Skip b et is
label_keeps ws i o a b (inl h) t k = absurd h
label_keeps ws i o a b (inr h) t k = absurd h
