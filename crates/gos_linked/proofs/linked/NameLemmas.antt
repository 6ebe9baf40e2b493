-- What is free in a term with supplies is free in one of the supplies.
use Rattle.std.specs.Prelude.{◌≡◌, ◌≤◌, ℕ, suc, List, [], ◌∷◌, ◌++◌, length, Option, Some, Contains}
use Rattle.std.proofs.Common.{arith}
use Rattle.gos_types.specs.Types.{Type', Com, Exp, Var, Pair, Fun}
use Rattle.gos_types.proofs.ListLemmas.{none_in_empty}
use Rattle.gos_model.specs.Terms.{Name, Term, Skip, Lit, Bound, Import, Lam, App, Both, Fst, Snd, Seq, Par, If, While, Assign, Deref, New, NewArray, Not, Bin}
use Rattle.gos_model.specs.Typing.{Imports, import_type, Thing, things, Typed, array_type}
use Rattle.gos_model.specs.Linking.{or_import, supplied}
use Rattle.gos_supplies.proofs.typing.WhenceLemmas.{named, of_two}

module _ (is : Imports) (f : Name → Option Term) (Good : Thing → Type 0)
    (supply : (x : Name) (t : Type') → import_type is x ≡ Some t → (d : ℕ) (z : Thing) → Contains (things d (or_import x (f x))) z → Good z)
  where
    module _ (z : Thing) where
      both : (m n : Term) (d : ℕ) → (Contains (things d (supplied f m)) z → Good z) → (Contains (things d (supplied f n)) z → Good z)
          → Contains (things d (supplied f m) ++ things d (supplied f n)) z → Good z
      both m n d = of_two (things d (supplied f m)) (things d (supplied f n)) z (Good z)

      pub from_supplies : (m : Term) (d : ℕ) (g : List Type') (t : Type') → length g ≤ d → Typed is g m t → Contains (things d (supplied f m)) z → Good z
      from_supplies Skip d g t low h has = absurd (none_in_empty z has)
      from_supplies (Lit k w) d g t low h has = absurd (none_in_empty z has)
      from_supplies (Bound n) d g t low h has = let there = named [] z (Bound n) d g t low h has in absurd (none_in_empty there.import there.has)
      from_supplies (Import x) d g t low h has = supply x t h d z has
      from_supplies (Lam a m) d g t low (b, e, h) has = from_supplies m (suc d) (a ∷ g) b (omega (arith, low)) h has
      from_supplies (App m n) d g t low (a, h, k, apart) has = both m n d (from_supplies m d g (Fun a t) low h) (from_supplies n d g a low k) has
      from_supplies (Both m n) d g t low (a, b, e, h, k) has = both m n d (from_supplies m d g a low h) (from_supplies n d g b low k) has
      from_supplies (Fst m) d g t low (b, h) has = from_supplies m d g (Pair t b) low h has
      from_supplies (Snd m) d g t low (a, h) has = from_supplies m d g (Pair a t) low h has
      from_supplies (Seq m n) d g t low (e, h, k) has = both m n d (from_supplies m d g Com low h) (from_supplies n d g t low k) has
      from_supplies (Par m n) d g t low (e, h, k, apart) has = both m n d (from_supplies m d g Com low h) (from_supplies n d g Com low k) has
      from_supplies (If m n p) d g t low (e, h, k, l) has =
          of_two (things d (supplied f m)) (things d (supplied f n) ++ things d (supplied f p)) z (Good z) (from_supplies m d g (Exp 1) low h)
          (both n p d (from_supplies n d g t low k) (from_supplies p d g t low l)) has
      from_supplies (While m n) d g t low (e, h, k) has = both m n d (from_supplies m d g (Exp 1) low h) (from_supplies n d g Com low k) has
      from_supplies (Assign m n) d g t low (w, e, h, k) has = both m n d (from_supplies m d g (Var w) low h) (from_supplies n d g (Exp w) low k) has
      from_supplies (Deref m) d g t low (w, e, h) has = from_supplies m d g (Var w) low h has
      from_supplies (New w m) d g t low (e, k, h) has = from_supplies m (suc d) (Var w ∷ g) t (omega (arith, low)) h has
      from_supplies (NewArray n w m) d g t low (e, l, k, h) has = from_supplies m (suc d) (array_type n w ∷ g) t (omega (arith, low)) h has
      from_supplies (Not m) d g t low (w, e, h) has = from_supplies m d g (Exp w) low h has
      from_supplies (Bin op m n) d g t low (w, e, h, k) has = both m n d (from_supplies m d g (Exp w) low h) (from_supplies n d g (Exp w) low k) has
      from_supplies m d g t low h has = absurd h
