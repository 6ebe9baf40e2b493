-- Files are written one after another.
use Rattle.std.proofs.Common.{◌≡◌, ◌≢◌, ◌<◌, ◌∙◌, ◌+◌, ℕ, zero, suc, List, [], ◌∷◌, Option, Some, None, length, take, drop, slice_get, slice_index_or, refl, ap, sym, subst, arith}
use Rattle.std.specs.FinMap.{insert}
use Rattle.std.proofs.Math.Seq.{drop-cons}
use Rattle.gos_outside.specs.Files.{Files, with_file, SameBut}
use Rattle.gos_outside.specs.OtherFiles.{IsApart, OthersSame}
use Rattle.gos_outside.proofs.OtherFilesLemmas.{one_more}
use Rattle.gos_tool.specs.demo.DemoFiles.{NamedText}
use Rattle.gos_tool.specs.demo.Demo.{holding, with_files, names_of}

-- a file at its place
pub file_at : (fs : List NamedText) (k : ℕ) (f : NamedText) → k < length fs → f ≡ slice_index_or fs k f → slice_get fs k ≡ Some f
file_at [] k f less e = absurd (omega (arith, less))
file_at (g ∷ fs) zero f less e = ap (λ (x : NamedText). Some x) (sym e)
file_at (g ∷ fs) (suc k) f less e = file_at fs k f (omega (arith, less)) e

-- the files from its place on
pub next_file : (fs : List NamedText) (k : ℕ) (f : NamedText) → k < length fs → f ≡ slice_index_or fs k f → drop k fs ≡ f ∷ drop (k + 1) fs
next_file fs k f less is =
    let after : suc k ≡ k + 1 = omega arith in
    subst (λ (n : ℕ). drop k fs ≡ f ∷ drop n fs) after (drop-cons fs k f less ∙ (λ i. sym is i ∷ drop (suc k) fs))

none_at : (k : ℕ) (f : NamedText) → slice_get [] k ≡ Some f → ⊥
none_at zero f e = cc e
none_at (suc k) f e = cc e

first_at : (g : NamedText) (fs : List NamedText) (f : NamedText) → slice_get (g ∷ fs) 0 ≡ Some f → g ≡ f
first_at g fs f e = cc e

-- one file more
holding_more : (fs : List NamedText) (k : ℕ) (f : NamedText) (files : Files) → slice_get fs k ≡ Some f
    → insert (holding (take k fs) files) f.name f.text ≡ holding (take (suc k) fs) files
holding_more [] k f files at = absurd (none_at k f at)
holding_more (g ∷ fs) zero f files at = ap (λ (x : NamedText). insert files x.name x.text) (sym (first_at g fs f at))
holding_more (g ∷ fs) (suc k) f files at = holding_more fs k f (insert files g.name g.text) at

pub one_written : (fs : List NamedText) (k : ℕ) (f : NamedText) (old mid new : Option Files) → slice_get fs k ≡ Some f
    → mid ≡ with_files (take k fs) old → new ≡ with_file f.name f.text mid → new ≡ with_files (take (k + 1) fs) old
one_written fs k f old mid new at before write =
    let e : k + 1 ≡ suc k = omega arith in
    write ∙ (ap (λ (o : Option Files). with_file f.name f.text o) before ∙ (by old ∙ sym (ap (λ (n : ℕ). with_files (take n fs) old) e)))
  where
    by : (o : Option Files) → with_file f.name f.text (with_files (take k fs) o) ≡ with_files (take (suc k) fs) o
    by None = refl
    by (Some files) = ap (λ (x : Files). Some x) (holding_more fs k f files at)

-- the name of a file among those of all
name_at : (fs : List NamedText) (k : ℕ) (f : NamedText) (other : List ℕ) → slice_get fs k ≡ Some f → IsApart other (names_of fs) → other ≢ f.name
name_at [] k f other at apart = absurd (none_at k f at)
name_at (g ∷ fs) zero f other at apart = subst (λ (x : NamedText). other ≢ x.name) (first_at g fs f at) apart.0
name_at (g ∷ fs) (suc k) f other at apart = name_at fs k f other at apart.1

-- after the write of one of them all files but these are as they were
pub files_same : (fs : List NamedText) (k : ℕ) (f : NamedText) (old mid new : Option Files) → slice_get fs k ≡ Some f
    → OthersSame (names_of fs) old mid → SameBut f.name mid new → OthersSame (names_of fs) old new
files_same fs k f old mid new at before same = one_more f.name (names_of fs) old mid new (λ other apart. name_at fs k f other at apart) before same
