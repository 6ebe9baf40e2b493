-- Plans that are one but for the numbers of their parts, imports and joints.
--
-- Read first: Tokens of gos_plan.
use Rattle.std.specs.Prelude.{◌≡◌, ◌↔◌, ℕ, List, map, slice_get, Contains}
use Rattle.gos_plan.specs.Plans.{End, PartEnd, ImportEnd, ResultEnd, Plan, IsRight}
use Rattle.gos_plan.specs.Tokens.{Tokens, Element, Fire, Out, In, Does, Runs, IsQuiet}
use Rattle.gos_joining.specs.webs.Webs.{joint}

-- new numbers of parts and imports, and the old ones of the new
pub record Renumber : Type 0 where
  pub part : ℕ → ℕ
  pub part_back : ℕ → ℕ
  pub import : ℕ → ℕ
  pub import_back : ℕ → ℕ

-- each number has one, and each is that of one
pub record IsOneToOne (f : Renumber) : Type 0 where
  pub parts : (i : ℕ) → f.part_back (f.part i) ≡ i
  pub parts_back : (i : ℕ) → f.part (f.part_back i) ≡ i
  pub imports : (i : ℕ) → f.import_back (f.import i) ≡ i
  pub imports_back : (i : ℕ) → f.import (f.import_back i) ≡ i

abbrev pub back : Renumber → Renumber
back f = record { part = f.part_back; part_back = f.part; import = f.import_back; import_back = f.import }

abbrev pub moved_end : Renumber → End → End
moved_end f (PartEnd i h) = PartEnd (f.part i) h
moved_end f (ImportEnd i h) = ImportEnd (f.import i) h
moved_end f (ResultEnd h) = ResultEnd h

-- q is p with these numbers. The weight may be another.
pub record IsRenumbered (f : Renumber) (p q : Plan) : Type 0 where
  pub one_to_one : IsOneToOne f
  pub parts : (i : ℕ) → slice_get q.parts (f.part i) ≡ slice_get p.parts i
  pub imports : (i : ℕ) → slice_get q.imports (f.import i) ≡ slice_get p.imports i
  pub outcome : q.outcome ≡ p.outcome
  pub joints : (a b : End) → Contains p.joints (joint a b) ↔ Contains q.joints (joint (moved_end f a) (moved_end f b))
  pub right : IsRight p
  pub also_right : IsRight q

abbrev pub moved : Renumber → Element → Element
moved f (Fire i t) = Fire (f.part i) t
moved f (Out e v) = Out (moved_end f e) v
moved f (In e v) = In (moved_end f e) v

abbrev pub moved_list : Renumber → List Element → List Element
moved_list f xs = map (moved f) xs

abbrev pub moved_tokens : Renumber → Tokens → Tokens
moved_tokens f s =
    record { in_place = λ way e. s.in_place way (moved_end (back f) e); state = λ i. s.state (f.part_back i) }

-- renumbering back is renumbering
abbrev pub RenumberedBack : Type 0
RenumberedBack = (f : Renumber) (p q : Plan) → IsRenumbered f p q → IsRenumbered (back f) q p

abbrev pub DoesIsMoved : Type 0
DoesIsMoved =
    (f : Renumber) (p q : Plan) (x : Element) (s t : Tokens)
    → IsRenumbered f p q → Does p x s t → Does q (moved f x) (moved_tokens f s) (moved_tokens f t)

abbrev pub RunsIsMoved : Type 0
RunsIsMoved =
    (f : Renumber) (p q : Plan) (xs : List Element) (s t : Tokens)
    → IsRenumbered f p q → Runs p xs s t → Runs q (moved_list f xs) (moved_tokens f s) (moved_tokens f t)

abbrev pub QuietIsMoved : Type 0
QuietIsMoved = (f : Renumber) (p q : Plan) (s : Tokens) → IsRenumbered f p q → IsQuiet p s → IsQuiet q (moved_tokens f s)
