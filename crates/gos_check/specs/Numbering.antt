-- How a term is numbered, from its leaves up; and the one typed term of a module.
--
-- Read first: Nodes, Opens, Scopes. What a numbered term is for says Linearity. Each use has a new number. Where two parts of a
-- node use one name, it has a new number outside, and a split says which numbers it has inside.
use Rattle.std.specs.Prelude.{ℕ, suc, ◌+◌, List, [], ◌∷◌, ◌++◌, map, length, Option, Some, None, nat_eq, if◌then◌else◌}
use Rattle.std.specs.Str.{bytes_eq}
use Rattle.gos_types.specs.Types.{Type', Com, Exp, Var, Pair, Fun}
use Rattle.gos_syntax.specs.Trees as trees
use Rattle.gos_syntax.specs.Trees.{Tree, tree_of}
use Rattle.gos_syntax.specs.Modules.{SeenImport, SeenModule}
use Rattle.gos_model.specs.Terms as terms
use Rattle.gos_model.specs.Terms.{Name, Term}
use Rattle.gos_model.specs.Typing.{Imports, array_type}
use Rattle.gos_model.specs.Weight.{or_com, after_fun, left_of, right_of, read_of, op_type}
use Rattle.gos_model.specs.Sources.{op_of, import_of}
use Rattle.gos_check.specs.declared.linear.Split.{Split}
use Rattle.gos_check.specs.declared.opens.Open.{Open}
use Rattle.gos_check.specs.Scopes.{Binders, type_at}
use Rattle.gos_check.specs.Nodes.{Binding, OfFun, OfNew, OfArray, OneForm, OfFst, OfSnd, OfDeref, OfNot, TwoForm, OfApp, OfBoth, OfSeq, OfPar, OfWhile, OfAssign, OfBin, Numbered, Closed, Use, Under, One, Two, If, type_of_node}
use Rattle.gos_check.specs.Opens.{number_in, others, merged_splits, merged_names, merged_next, binder_number, binder_next}

-- the types of the forms, from those of their parts
abbrev pub one_type : OneForm → Type' → Type'
one_type OfFst a = left_of a
one_type OfSnd a = right_of a
one_type OfDeref a = read_of a
one_type OfNot a = a

abbrev pub two_type : TwoForm → Type' → Type' → Type'
two_type OfApp a b = after_fun a
two_type OfBoth a b = Pair a b
two_type OfSeq a b = b
two_type OfPar a b = Com
two_type OfWhile a b = Com
two_type OfAssign a b = Com
two_type (OfBin op) a b = op_type op a

-- the type of a binder's node, from the type of what it binds and that of its body
abbrev pub binder_type : Binding → Type' → Type' → Type'
binder_type OfFun a b = Fun a b
binder_type (OfNew w) a b = b
binder_type (OfArray n w) a b = b

-- a numbered term: its node, its free names with their numbers, and the next number
pub record Result : Type 0 where
  pub node : Numbered
  pub names : List Open
  pub next : ℕ

-- a term without names
abbrev pub closed_result : Type' → Term → ℕ → Result
closed_result t c n = record { node = Closed t [] c; names = []; next = n }

-- a name
abbrev pub use_result : Type' → Name → ℕ → Result
use_result t x n = record { node = Use t [] n; names = record { name = x; number = n } ∷ []; next = suc n }

-- a binder of a name of type a around a term
abbrev pub binder_result : Binding → Name → Type' → Result → Result
binder_result b x a r =
    record {
      node = Under (binder_type b a (type_of_node r.node)) [] b (binder_number (number_in r.names x) r.next) r.node;
      names = others x r.names;
      next = binder_next (number_in r.names x) r.next;
    }

-- a form of one part
abbrev pub one_result : OneForm → Result → Result
one_result f r = record { node = One (one_type f (type_of_node r.node)) [] f r.node; names = r.names; next = r.next }

-- a form of two parts, of which the right one was numbered last
abbrev pub two_result : TwoForm → Result → Result → Result
two_result f l r =
    record {
      node = Two (two_type f (type_of_node l.node) (type_of_node r.node)) (merged_splits l.names r.names r.next) f l.node r.node;
      names = merged_names l.names r.names r.next;
      next = merged_next l.names r.names r.next;
    }

-- the splits of the test and the first branch of a choice, the names that they leave open together, and the next number
abbrev pub inner_splits : Result → Result → List Split
inner_splits a b = merged_splits a.names b.names b.next

abbrev pub inner_names : Result → Result → List Open
inner_names a b = merged_names a.names b.names b.next

abbrev pub inner_next : Result → Result → ℕ
inner_next a b = merged_next a.names b.names b.next

-- a choice, whose test and first branch have these splits and leave these names open together, and whose second branch was
-- numbered last
abbrev pub choice_after : List Split → List Open → Numbered → Numbered → Result → Result
choice_after splits names m n c =
    record {
      node = If (type_of_node n) (merged_splits names c.names c.next ++ splits) m n c.node;
      names = merged_names names c.names c.next;
      next = merged_next names c.names c.next;
    }

abbrev pub choice_result : Result → Result → Result → Result
choice_result a b c = choice_after (inner_splits a b) (inner_names a b) a.node b.node c

-- a tree under imports and binders, from a number on
abbrev pub numbered : Imports → Binders → ℕ → Tree → Result
numbered i g n (trees.Skip s) = closed_result Com terms.Skip n
numbered i g n (trees.Lit s k w) = closed_result (Exp w) (terms.Lit k w) n
numbered i g n (trees.Use s x) = use_result (or_com (type_at i g x)) x n
numbered i g n (trees.Lam s x a t m) = binder_result OfFun x a (numbered i (record { name = x; ty = a } ∷ g) n m)
numbered i g n (trees.New s x w t m) = binder_result (OfNew w) x (Var w) (numbered i (record { name = x; ty = Var w } ∷ g) n m)
numbered i g n (trees.Array s x l u w t m) =
    binder_result (OfArray l w) x (array_type l w) (numbered i (record { name = x; ty = array_type l w } ∷ g) n m)
numbered i g n (trees.App s l r) = two_result OfApp (numbered i g n l) (numbered i g (numbered i g n l).next r)
numbered i g n (trees.Both s l r) = two_result OfBoth (numbered i g n l) (numbered i g (numbered i g n l).next r)
numbered i g n (trees.Fst s m) = one_result OfFst (numbered i g n m)
numbered i g n (trees.Snd s m) = one_result OfSnd (numbered i g n m)
numbered i g n (trees.Seq s l r) = two_result OfSeq (numbered i g n l) (numbered i g (numbered i g n l).next r)
numbered i g n (trees.Par s l r) = two_result OfPar (numbered i g n l) (numbered i g (numbered i g n l).next r)
numbered i g n (trees.If s l r m) =
    choice_result (numbered i g n l) (numbered i g (numbered i g n l).next r)
    (numbered i g (inner_next (numbered i g n l) (numbered i g (numbered i g n l).next r)) m)
numbered i g n (trees.While s l r) = two_result OfWhile (numbered i g n l) (numbered i g (numbered i g n l).next r)
numbered i g n (trees.Assign s l r) = two_result OfAssign (numbered i g n l) (numbered i g (numbered i g n l).next r)
numbered i g n (trees.Deref s m) = one_result OfDeref (numbered i g n m)
numbered i g n (trees.Not s m) = one_result OfNot (numbered i g n m)
numbered i g n (trees.Bin s op l r) = two_result (OfBin (op_of op)) (numbered i g n l) (numbered i g (numbered i g n l).next r)

-- two numbers exchanged
abbrev pub exchanged : ℕ → ℕ → ℕ → ℕ
exchanged a b k = if nat_eq k a then b else if nat_eq k b then a else k

-- a split with other numbers
abbrev pub renamed_split : (ℕ → ℕ) → Split → Split
renamed_split f s = record { of = f s.of; left = f s.left; right = f s.right }

-- a node with other numbers
abbrev pub renamed : (ℕ → ℕ) → Numbered → Numbered
renamed f (Closed t ss c) = Closed t (map (renamed_split f) ss) c
renamed f (Use t ss n) = Use t (map (renamed_split f) ss) (f n)
renamed f (Under t ss b n m) = Under t (map (renamed_split f) ss) b (f n) (renamed f m)
renamed f (One t ss g m) = One t (map (renamed_split f) ss) g (renamed f m)
renamed f (Two t ss g m n) = Two t (map (renamed_split f) ss) g (renamed f m) (renamed f n)
renamed f (If t ss m n p) = If t (map (renamed_split f) ss) (renamed f m) (renamed f n) (renamed f p)

-- a number so much greater
abbrev pub raised : ℕ → Option ℕ → Option ℕ
raised n None = None
raised n (Some p) = Some (n + p)

-- the place of the first import of this name
abbrev pub import_number : List SeenImport → Name → Option ℕ
import_number [] x = None
import_number (i ∷ is) x = if bytes_eq i.name x then Some 0 else raised 1 (import_number is x)

-- a node in which a number is exchanged with an import's place
abbrev pub with_place : Option ℕ → ℕ → Numbered → Numbered
with_place None n node = node
with_place (Some p) n node = renamed (exchanged n p) node

-- a node in which each of these names has its import's place as its number
abbrev pub placed : List SeenImport → List Open → Numbered → Numbered
placed is [] node = node
placed is (o ∷ os) node = placed is os (with_place (import_number is o.name) o.number node)

-- a tree under these imports, whose numbers are their places
abbrev pub under_imports : List SeenImport → Tree → Result
under_imports is m = numbered (map import_of is) [] (length is) m

abbrev pub typed_tree : List SeenImport → Tree → Numbered
typed_tree is m = placed is (under_imports is m).names (under_imports is m).node

-- the typed term of a module
abbrev pub typed_term : SeenModule → Numbered
typed_term m = typed_tree m.imports (tree_of m.body.form m.body.span)
