use Rattle.pol_sound.proofs.SoundConversion.{converted_is_sound, converted_is_accepted}
use Rattle.pol_sound.proofs.sound_law.converted_policies_are_sound.Goals as goal

pub returns-clause-sound : goal.returns-clause-sound
returns-clause-sound c = converted_is_sound

pub returns-clause-accepted : goal.returns-clause-accepted
returns-clause-accepted c = converted_is_accepted
