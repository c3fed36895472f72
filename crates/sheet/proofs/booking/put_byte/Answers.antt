-- One byte.
use Rattle.text.proofs.Promise.{put_length}
use Rattle.sheet.specs.Booking.{number_byte}
use Rattle.sheet.proofs.booking.put_byte.Goals as goal

pub shape_of-out : goal.shape_of-out
shape_of-out c = put_length c.put.ensures

pub returns : goal.returns
unfolding number_byte
returns c = c.put.ensures
