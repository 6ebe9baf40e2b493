-- A term has its type under all imports that give its names the same types, and behind more variables.
use Rattle.std.specs.Prelude.{◌≡◌, ℕ, suc, List, [], ◌∷◌, ◌++◌, Contains}
use Rattle.std.proofs.Common.{refl, ◌∙◌, subst, arith}
use Rattle.std.proofs.lemmas.List.{append-nil}
use Rattle.std.proofs.lemmas.List.Elements.{Contains-append_left, Contains-append_right}
use Rattle.gos_types.specs.Types.{Type', Com, Exp, Var, Pair, Fun}
use Rattle.gos_types.proofs.ListLemmas.{found_in_front}
use Rattle.gos_model.specs.Terms.{Name, Term, Skip, Lit, Bound, Import, Lam, App, Both, Fst, Snd, Seq, Par, If, While, Assign, Deref, New, NewArray, Not, Bin}
use Rattle.gos_model.specs.Typing.{Imports, import_type, Thing, Named, things, Typed, array_type}
use Rattle.gos_supplies.specs.typing.Names.{TypedUnderFewer}

module _ (i j : Imports) where
  -- both imports give the names among these things the same types
  abbrev Same : List Thing → Type 0
  Same xs = (x : Name) → Contains xs (Named x) → import_type j x ≡ import_type i x

  one : (xs ys : List Thing) → Same (xs ++ ys) → Same xs
  one xs ys s x has = s x (Contains-append_left xs ys (Named x) has)

  two : (xs ys : List Thing) → Same (xs ++ ys) → Same ys
  two xs ys s x has = s x (Contains-append_right xs ys (Named x) has)

  pub typed_under : (m : Term) (d : ℕ) (g h : List Type') (t : Type') → Same (things d m) → Typed i g m t → Typed j (g ++ h) m t
  typed_under Skip d g h t s e = e
  typed_under (Lit k w) d g h t s e = e
  typed_under (Bound n) d g h t s e = found_in_front g h n t e
  typed_under (Import x) d g h t s e = s x (0, omega arith, refl) ∙ e
  typed_under (Lam a m) d g h t s (b, e, of_m) = (b, e, typed_under m (suc d) (a ∷ g) h b s of_m)
  typed_under (App m n) d g h t s (a, of_m, of_n, apart) = (
    a,
    typed_under m d g h (Fun a t) (one (things d m) (things d n) s) of_m,
    typed_under n d g h a (two (things d m) (things d n) s) of_n,
    apart,
  )
  typed_under (Both m n) d g h t s (a, b, e, of_m, of_n) = (
    a,
    b,
    e,
    typed_under m d g h a (one (things d m) (things d n) s) of_m,
    typed_under n d g h b (two (things d m) (things d n) s) of_n,
  )
  typed_under (Fst m) d g h t s (b, of_m) = (b, typed_under m d g h (Pair t b) s of_m)
  typed_under (Snd m) d g h t s (a, of_m) = (a, typed_under m d g h (Pair a t) s of_m)
  typed_under (Seq m n) d g h t s (e, of_m, of_n) = (
    e,
    typed_under m d g h Com (one (things d m) (things d n) s) of_m,
    typed_under n d g h t (two (things d m) (things d n) s) of_n,
  )
  typed_under (Par m n) d g h t s (e, of_m, of_n, apart) = (
    e,
    typed_under m d g h Com (one (things d m) (things d n) s) of_m,
    typed_under n d g h Com (two (things d m) (things d n) s) of_n,
    apart,
  )
  typed_under (If m n p) d g h t s (e, of_m, of_n, of_p) =
      let rest = two (things d m) (things d n ++ things d p) s in (
        e,
        typed_under m d g h (Exp 1) (one (things d m) (things d n ++ things d p) s) of_m,
        typed_under n d g h t (one (things d n) (things d p) rest) of_n,
        typed_under p d g h t (two (things d n) (things d p) rest) of_p,
      )
  typed_under (While m n) d g h t s (e, of_m, of_n) = (
    e,
    typed_under m d g h (Exp 1) (one (things d m) (things d n) s) of_m,
    typed_under n d g h Com (two (things d m) (things d n) s) of_n,
  )
  typed_under (Assign m n) d g h t s (w, e, of_m, of_n) = (
    w,
    e,
    typed_under m d g h (Var w) (one (things d m) (things d n) s) of_m,
    typed_under n d g h (Exp w) (two (things d m) (things d n) s) of_n,
  )
  typed_under (Deref m) d g h t s (w, e, of_m) = (w, e, typed_under m d g h (Var w) s of_m)
  typed_under (New w m) d g h t s (e, k, of_m) = (e, k, typed_under m (suc d) (Var w ∷ g) h t s of_m)
  typed_under (NewArray n w m) d g h t s (e, l, k, of_m) = (e, l, k, typed_under m (suc d) (array_type n w ∷ g) h t s of_m)
  typed_under (Not m) d g h t s (w, e, of_m) = (w, e, typed_under m d g h (Exp w) s of_m)
  typed_under (Bin op m n) d g h t s (w, e, of_m, of_n) = (
    w,
    e,
    typed_under m d g h (Exp w) (one (things d m) (things d n) s) of_m,
    typed_under n d g h (Exp w) (two (things d m) (things d n) s) of_n,
  )
  typed_under m d g h t s e = absurd e

pub typed_under_fewer : TypedUnderFewer
typed_under_fewer i j g m t agree typed =
    subst (λ (h : List Type'). Typed j h m t) (append-nil g) (typed_under i j m 0 g [] t agree typed)
