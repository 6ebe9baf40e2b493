-- What agrees on calls agrees on each part of them, and what is written the same in two steps is written the same.
use Rattle.std.proofs.Common.{◌≡◌, ◌∙◌, ◌++◌, ℕ, List, [], ◌∷◌, Bool, None, Option, Some, ap, cond, map, refl, sym, unwrap_or}
use Rattle.std.specs.Cmp.{eq_by_cmp_equiv}
use Rattle.std.specs.Cmp.Lexicographic.{nat_list_cmp_total}
use Rattle.std.specs.FinMap.{get, get-insert, insert}
use Rattle.std.proofs.lemmas.List.{map-append}
use Rattle.gos_outside.specs.Files.{Files, bytes_at, with_file}
use Rattle.gos_outside.specs.Calls.{StoreCall, Read, Write}
use Rattle.gos_lex.specs.Lines.{Word}
use Rattle.gos_tool.specs.Agreement.{AgreeOn, WriteTheSame, files_of, with_texts}
use Rattle.gos_tool.specs.SmallAgreement.{LeaveOne, OldBytesAreNot, OtherBytesAreNot, SameBytesAre}

pub agree_back : (a b : List StoreCall) (files others : Files) → AgreeOn (a ++ b) files others → AgreeOn b files others
agree_back [] b files others agree = agree
agree_back (Read name most ∷ a) b files others agree = agree_back a b files others agree.1
agree_back (Write name ∷ a) b files others agree = agree_back a b files others agree

pub agree_front : (a b : List StoreCall) (files others : Files) → AgreeOn (a ++ b) files others → AgreeOn a files others
agree_front [] b files others agree = tt
agree_front (Read name most ∷ a) b files others agree = (agree.0, agree_front a b files others agree.1)
agree_front (Write name ∷ a) b files others agree = agree_front a b files others agree

files-append : (a b : List StoreCall) → files_of (a ++ b) ≡ files_of a ++ files_of b
files-append [] b = refl
files-append (Read name most ∷ a) b = files-append a b
files-append (Write name ∷ a) b = ap (λ (names : List Word). name ∷ names) (files-append a b)

with_both : (a b : List (Word × List ℕ)) (old : Option Files) → with_texts (a ++ b) old ≡ with_texts b (with_texts a old)
with_both [] b old = refl
with_both (t ∷ a) b old = with_both a b (with_file t.0 t.1 old)

pub same_then_same : (a b : List StoreCall) (old also mid between new other : Option Files) → WriteTheSame a old also mid between
    → WriteTheSame b mid between new other → WriteTheSame (a ++ b) old also new other
same_then_same a b old also mid between new other first then =
    record {
      texts = first.texts ++ then.texts;
      named = map-append (λ (written : Word × List ℕ). written.0) first.texts then.texts ∙ ((λ i. first.named i ++ then.named i) ∙ sym (files-append a b));
      one = then.one ∙ (ap (with_texts then.texts) first.one ∙ sym (with_both first.texts then.texts old));
      two = then.two ∙ (ap (with_texts then.texts) first.two ∙ sym (with_both first.texts then.texts also));
    }

-- one text
pub same_text : (calls : List StoreCall) (old also new other : Option Files) (name text bytes : Word) → name ∷ [] ≡ files_of calls → text ≡ bytes
    → new ≡ with_file name text old → other ≡ with_file name bytes also → WriteTheSame calls old also new other
same_text calls old also new other name text bytes named same one two =
    record { texts = (name, text) ∷ []; named = named; one = one; two = two ∙ ap (λ (t : Word). with_file name t also) (sym same) }

-- in small
there : (files : Files) (name text : Word) → bytes_at (insert files name text) name ≡ text
there files name text =
    ap (λ (o : Option Word). unwrap_or o [])
    (get-insert nat_list_cmp_total files name text name
    ∙ ap (λ (b : Bool). cond b (Some text) (get files name)) ((eq_by_cmp_equiv nat_list_cmp_total).refl name))

abbrev bytes_then : Option Files → Word → Word
bytes_then None name = []
bytes_then (Some files) name = bytes_at files name

pub leave_one : LeaveOne
leave_one calls old new other same = same.one ∙ sym same.two

pub same_bytes_are : SameBytesAre
same_bytes_are files others name text = record { texts = (name, text) ∷ []; named = refl; one = refl; two = refl }

pub other_bytes_are_not : OtherBytesAreNot
other_bytes_are_not files name same =
    let left = leave_one (Write name ∷ []) (Some files) (with_file name (1 ∷ []) (Some files)) (with_file name (2 ∷ []) (Some files)) same in
    let bytes : 1 ∷ [] ≡ 2 ∷ [] =
    sym (there files name (1 ∷ [])) ∙ (ap (λ (o : Option Files). bytes_then o name) left ∙ there files name (2 ∷ [])) in
    absurd (cc bytes)

-- the text of the one file that is written
abbrev first_of : List (Word × List ℕ) → Option Word
first_of [] = None
first_of (written ∷ rest) = Some written.1

one_held : (files : Files) (name : Word) (texts : List (Word × List ℕ)) → map (λ (written : Word × List ℕ). written.0) texts ≡ name ∷ []
    → Some files ≡ with_texts texts (Some files) → bytes_at files name ≡ unwrap_or (first_of texts) []
one_held files name [] named one = absurd (cc named)
one_held files name (t ∷ (u ∷ texts)) named one = absurd (cc named)
one_held files name ((n, text) ∷ []) named one =
    let same : n ≡ name = cc named in
    ap (λ (o : Option Files). bytes_then o name) one ∙ (ap (λ (x : Word). bytes_at (insert files x text) name) same ∙ there files name text)

pub old_bytes_are_not : OldBytesAreNot
old_bytes_are_not files others name differ same =
    differ (one_held files name same.texts same.named same.one ∙ sym (one_held others name same.texts same.named same.two))
