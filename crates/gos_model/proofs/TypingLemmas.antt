-- A typed term has the type that weighs it, and so one type alone.
use Rattle.std.specs.Prelude.{◌∷◌}
use Rattle.std.proofs.Common.{sym, ap, ◌∙◌}
use Rattle.gos_types.specs.Types.{Exp, Var, Pair, Fun}
use Rattle.gos_model.specs.Terms.{Skip, Lit, Bound, Import, Lam, App, Both, Fst, Snd, Seq, Par, If, While, Assign, Deref, New, NewArray, Not, Bin}
use Rattle.gos_model.specs.Typing.{array_type}
use Rattle.gos_model.specs.Weight.{node_type, or_com, after_fun, left_of, right_of, read_of, op_type}
use Rattle.gos_model.specs.Laws.{NodeHasType, OneType}

pub node_has_type : NodeHasType
node_has_type i g Skip t h = sym h
node_has_type i g (Lit k w) t h = sym h.0
node_has_type i g (Bound n) t h = ap or_com h
node_has_type i g (Import x) t h = ap or_com h
node_has_type i g (Lam a m) t (b, e, h) = ap (λ x. Fun a x) (node_has_type i (a ∷ g) m b h) ∙ sym e
node_has_type i g (App m n) t (a, h, k, apart) = ap after_fun (node_has_type i g m (Fun a t) h)
node_has_type i g (Both m n) t (a, b, e, h, k) = ap (λ x. Pair x (node_type i g n)) (node_has_type i g m a h) ∙ ap (λ x. Pair a x) (node_has_type i g n b k) ∙ sym e
node_has_type i g (Fst m) t (b, h) = ap left_of (node_has_type i g m (Pair t b) h)
node_has_type i g (Snd m) t (a, h) = ap right_of (node_has_type i g m (Pair a t) h)
node_has_type i g (Seq m n) t (d, h, k) = node_has_type i g n t k
node_has_type i g (Par m n) t h = sym h.0
node_has_type i g (If m n p) t (d, h, k, l) = node_has_type i g n t k
node_has_type i g (While m n) t h = sym h.0
node_has_type i g (Assign m n) t h = sym h.1
node_has_type i g (Deref m) t (w, e, h) = ap read_of (node_has_type i g m (Var w) h) ∙ sym e
node_has_type i g (New w m) t (d, k, h) = node_has_type i (Var w ∷ g) m t h
node_has_type i g (NewArray n w m) t (d, l, k, h) = node_has_type i (array_type n w ∷ g) m t h
node_has_type i g (Not m) t (w, e, h) = node_has_type i g m (Exp w) h ∙ sym e
node_has_type i g (Bin op m n) t (w, e, h, k) = ap (λ x. op_type op x) (node_has_type i g m (Exp w) h) ∙ sym e
node_has_type i g m t h = absurd h

pub one_type : OneType
one_type i g m t u h k = sym (node_has_type i g m t h) ∙ node_has_type i g m u k
