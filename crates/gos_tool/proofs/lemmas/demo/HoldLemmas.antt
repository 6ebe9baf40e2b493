-- What files hold after several writes.
--
-- A file that is written last, of those with its name, holds its text; and it goes on to hold it where no other file is written but
-- those that the build names.
use Rattle.std.proofs.Common.{◌≡◌, ◌≢◌, ◌∙◌, ℕ, zero, suc, Bool, true, false, true≢false, List, [], ◌∷◌, ◌++◌, ◌&&◌, not, nat_eq, Option, Some, None, refl, ap, sym, cond}
use Rattle.std.specs.Prelude.{codes}
use Rattle.std.specs.Str.{bytes_eq}
use Rattle.std.proofs.lemmas.Slice.Eq.{bytes_eq-Decides}
use Rattle.std.specs.Cmp.{eq_by_cmp_equiv}
use Rattle.std.specs.Cmp.Lexicographic.{nat_list_cmp_total}
use Rattle.std.specs.FinMap.{get, insert, get-insert}
use Rattle.gos_outside.specs.Files.{Files}
use Rattle.gos_outside.specs.OtherFiles.{IsApart, OthersSame}
use Rattle.gos_outside.proofs.FilesLemmas.{others_keep}
use Rattle.gos_lex.specs.Lines.{Word}
use Rattle.gos_tool.specs.demo.DemoFiles.{NamedText, main_source, twice_source, pass_source, pair_source, id_source, pulse_file, build_file, demo_files}
use Rattle.gos_tool.specs.demo.Demo.{holding, Holds, HoldsEach, with_demo, names_of, object_of, objects_of, built_by}
use Rattle.gos_tool.proofs.lemmas.demo.TestLemmas.{front_true, back_true}

-- a file that is not written
kept : (fs : List NamedText) (files : Files) (name : Word) → IsApart name (names_of fs) → get (holding fs files) name ≡ get files name
kept [] files name apart = refl
kept (f ∷ fs) files name apart = kept fs (insert files f.name f.text) name apart.1 ∙ others_keep files f.name f.text name apart.0

-- a file that is written
pub put : (files : Files) (name text : List ℕ) → get (insert files name text) name ≡ Some text
put files name text =
    get-insert nat_list_cmp_total files name text name
    ∙ ap (λ (b : Bool). cond b (Some text) (get files name)) ((eq_by_cmp_equiv nat_list_cmp_total).refl name)

-- no two names are the same
abbrev AreDistinct : List Word → Type 0
AreDistinct [] = Unit {0}
AreDistinct (name ∷ names) = IsApart name names × AreDistinct names

hold_all : (fs : List NamedText) (files : Files) → AreDistinct (names_of fs) → HoldsEach (Some (holding fs files)) fs
hold_all [] files distinct = tt
hold_all (f ∷ fs) files distinct = (
  record { all = holding (f ∷ fs) files; told = refl; text = kept fs (insert files f.name f.text) f.name distinct.0 ∙ put files f.name f.text },
  hold_all fs (insert files f.name f.text) distinct.1,
)

-- tests of names
abbrev is_apart : Word → List Word → Bool
is_apart name [] = true
is_apart name (other ∷ names) = not (bytes_eq name other) && is_apart name names

abbrev are_distinct : List Word → Bool
are_distinct [] = true
are_distinct (name ∷ names) = is_apart name names && are_distinct names

differ : (a b : Word) → not (bytes_eq a b) ≡ true → a ≢ b
differ a b e same = true≢false (sym e ∙ ap not ((bytes_eq-Decides a b).1 same))

apart_by : (name : Word) (names : List Word) → is_apart name names ≡ true → IsApart name names
apart_by name [] e = tt
apart_by name (other ∷ names) e = (differ name other (front_true _ _ e), apart_by name names (back_true _ _ e))

distinct_by : (names : List Word) → are_distinct names ≡ true → AreDistinct names
distinct_by [] e = tt
distinct_by (name ∷ names) e = (apart_by name names (front_true _ _ e), distinct_by names (back_true _ _ e))

-- the names of the demo's files
pub demo_held : (levels : ℕ) (files : Files) → HoldsEach (Some (with_demo levels files)) (demo_files levels)
demo_held levels files = hold_all (demo_files levels) files (distinct_by (names_of (demo_files levels)) refl)

-- names of two lists
pub apart_both : (name : Word) (names more : List Word) → IsApart name names → IsApart name more → IsApart name (names ++ more)
apart_both name [] more front back = back
apart_both name (other ∷ names) more front back = (front.0, apart_both name names more front.1 back)

-- the sixth byte of a name, which tells the objects of levels from all other files
abbrev sixth : Word → ℕ
sixth (a ∷ b ∷ c ∷ d ∷ e ∷ f ∷ bytes) = f
sixth bytes = 0

abbrev fifth : Word → ℕ
fifth (a ∷ b ∷ c ∷ d ∷ e ∷ bytes) = e
fifth bytes = 0

no_object : (name : Word) → ((n : ℕ) → name ≢ object_of n) → (levels : ℕ) → IsApart name (objects_of levels)
no_object name other zero = tt
no_object name other (suc n) = apart_both name (objects_of n) (object_of (suc n) ∷ []) (no_object name other n) (other (suc n), tt)

is_other : (name : Word) → ((n : ℕ) → name ≢ object_of n)
    → is_apart name (codes "demo_main.obj" ∷ []) ≡ true → is_apart name (codes "demo_leaf.obj" ∷ codes "demo.net" ∷ codes "demo.v" ∷ codes "demo.trc" ∷ []) ≡ true
    → (levels : ℕ) → IsApart name (built_by levels)
is_other name other first last levels =
    apart_both name (codes "demo_main.obj" ∷ objects_of levels) (codes "demo_leaf.obj" ∷ codes "demo.net" ∷ codes "demo.v" ∷ codes "demo.trc" ∷ [])
    ((apart_by name (codes "demo_main.obj" ∷ []) first).0, no_object name other levels)
    (apart_by name (codes "demo_leaf.obj" ∷ codes "demo.net" ∷ codes "demo.v" ∷ codes "demo.trc" ∷ []) last)

by_sixth : (name : Word) → nat_eq (sixth name) 108 ≡ false → (n : ℕ) → name ≢ object_of n
by_sixth name e n same = true≢false (ap (λ (w : Word). nat_eq (sixth w) 108) (sym same) ∙ e)

by_fifth : (name : Word) → nat_eq (fifth name) 95 ≡ false → (n : ℕ) → name ≢ object_of n
by_fifth name e n same = true≢false (ap (λ (w : Word). nat_eq (fifth w) 95) (sym same) ∙ e)

-- a file goes on to hold its text
still : (names : List Word) (old new : Option Files) (f : NamedText) → OthersSame names old new → IsApart f.name names → Holds old f → Holds new f
still names None new f same apart holds = absurd (no_files holds.told)
  where
    no_files : None ≡ Some holds.all → ⊥
    no_files e = cc e
still names (Some old) None f same apart holds = absurd same
still names (Some old) (Some new) f same apart holds =
    record { all = new; told = refl; text = same f.name apart ∙ (ap (λ (o : Option Files). get_in o f.name) holds.told ∙ holds.text) }
  where
    get_in : Option Files → Word → Option (List ℕ)
    get_in None name = None
    get_in (Some all) name = get all name

-- so do those of the demo
pub demo_hold : (levels : ℕ) (old new : Option Files) → OthersSame (built_by levels) old new → HoldsEach old (demo_files levels) → HoldsEach new (demo_files levels)
demo_hold levels old new same (main, (twice, (pass, (pair, (id, (pulses, (build, done))))))) =
    let more : (f : NamedText) → IsApart f.name (built_by levels) → Holds old f → Holds new f = λ f apart holds. still (built_by levels) old new f same apart holds in
    (more main_source (is_other (codes "demo_main.gos") (by_sixth (codes "demo_main.gos") refl) refl refl levels) main, (more twice_source (is_other (codes "demo_twice.gos") (by_sixth (codes "demo_twice.gos") refl) refl refl levels) twice, (more pass_source (is_other (codes "demo_pass.gos") (by_sixth (codes "demo_pass.gos") refl) refl refl levels) pass, (more pair_source (is_other (codes "demo_pair.gos") (by_sixth (codes "demo_pair.gos") refl) refl refl levels) pair, (more id_source (is_other (codes "demo_id.gos") (by_sixth (codes "demo_id.gos") refl) refl refl levels) id, (more (pulse_file levels) (is_other (codes "demo.pls") (by_fifth (codes "demo.pls") refl) refl refl levels) pulses, (more (build_file levels) (is_other (codes "demo.txt") (by_fifth (codes "demo.txt") refl) refl refl levels) build, tt)))))))
