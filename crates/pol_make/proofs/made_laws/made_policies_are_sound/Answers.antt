use Rattle.pol_make.proofs.SoundPolicy.{made-sound}
use Rattle.pol_make.proofs.made_laws.made_policies_are_sound.Goals as goal

pub returns : goal.returns
returns c = made-sound
