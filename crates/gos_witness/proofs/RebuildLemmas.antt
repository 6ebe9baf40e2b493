-- A part is put in again, frame by frame.
use Rattle.std.proofs.Common.{◌≡◌, ◌<◌, ℕ, List, [], ◌∷◌, ◌++◌, length, sym, ap, ◌∙◌}
use Rattle.gos_witness.specs.declared.walking.Frame.{Frame}
use Rattle.gos_witness.specs.NodeLists.{Listed, seen}
use Rattle.gos_witness.specs.inner.Keeping.{Keeps}
use Rattle.gos_witness.specs.inner.Places.{fill, plug, AreFrames}
use Rattle.gos_witness.proofs.KeepLemmas.{keeps_twice}
use Rattle.gos_witness.proofs.PlaceLemmas.{plug_more, frames_less, fill_keeps}

-- a list a became l, and the frames that are left stand around the whole so far as all did around the part
pub record IsRebuilding (a l : Listed) (whole part : ℕ) (now all : List Frame) : Type 0 where
  pub keeps : Keeps a l
  pub there : whole < length l.nodes
  pub frames : AreFrames a.tables (length a.nodes) now
  pub term : plug a now (seen l whole) ≡ plug a all (seen a part)

pub rebuilding_goes_on : (a l l' : Listed) (whole next part : ℕ) (fs : List Frame) (f : Frame) (all : List Frame)
    → IsRebuilding a l whole part (fs ++ f ∷ []) all → Keeps l l' → next < length l'.nodes → seen l' next ≡ fill l f (seen l whole)
    → IsRebuilding a l' next part fs all
rebuilding_goes_on a l l' whole next part fs f all r keeps there e =
    let (rest, last) = frames_less a.tables (length a.nodes) fs f r.frames in
    record {
      keeps = keeps_twice a l l' r.keeps keeps;
      there = there;
      frames = rest;
      term =
          ap (plug a fs) (e ∙ fill_keeps a l f (seen l whole) r.keeps last)
          ∙ sym (plug_more a fs f (seen l whole)) ∙ r.term;
    }
