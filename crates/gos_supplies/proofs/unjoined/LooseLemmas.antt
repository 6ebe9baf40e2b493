-- The laws, of plans beside loose parts.
use Rattle.gos_supplies.specs.unjoined.Loose.{LooseIsRegular, LooseRests, LooseIsDone, LooseIsRealised}
use Rattle.gos_supplies.proofs.unjoined.SettledLemmas.{settling, settled_placed}
use Rattle.gos_supplies.proofs.unjoined.RegularLemmas.{whole_regular, whole_rests}
use Rattle.gos_supplies.proofs.unjoined.DoneLemmas.{whole_done}
use Rattle.gos_supplies.proofs.unjoined.HigherLemmas.{whole_realises}

pub loose_is_regular : LooseIsRegular
loose_is_regular f r c is regular = whole_regular (settling f r c is) r c (settled_placed f r c is) regular

pub loose_rests : LooseRests
loose_rests f r c is rests = whole_rests (settling f r c is) r c (settled_placed f r c is) rests

pub loose_is_done : LooseIsDone
loose_is_done f r c m is names knows done = whole_done (settling f r c is) r c (settled_placed f r c is) m names knows done

pub loose_is_realised : LooseIsRealised
loose_is_realised f r c t m is literals ports names realised =
    whole_realises t (settling f r c is) r c m (settled_placed f r c is) literals ports names realised
