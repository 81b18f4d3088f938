-- `costs::scale_by` meets its contract: a factor of 1 leaves the distance; else the product is finite, above -1 and at most 16 times the distance, so that the cut is Rust's. Assumes nothing.
use Rattle.std.proofs.Common.{◌*◌, ◌≤◌, pos, sym, ◌∙◌, arith}
use lib.Ieee.{binary32, mul, of_int, of_bits}
use Rattle.costs.specs.Scale.{scale_of}
use Rattle.costs.proofs.Product.{Within, bounded, above, under, cut_le, cut_same}
use Rattle.costs.proofs.One.{scale_one}
use Rattle.costs.proofs.scale_by.Goals as goal

pub returns-then-factor : goal.returns-then-factor
unfolding of_bits
returns-then-factor c =
    let n = c.args.distance in
    (sym (scale_one n c.args.factor (omega arith) (rw c.if-factor.true tt)), omega arith)

pub truncating_f32_to_u64-requires-clause-lower_bound : goal.truncating_f32_to_u64-requires-clause-lower_bound
truncating_f32_to_u64-requires-clause-lower_bound c =
    let k = c.args.distance * 16 in
    above k ((mul binary32 (of_int binary32 (pos c.args.distance)) c.args.factor)) ((let within' : Within (c.args.distance * 16) ((mul binary32 (of_int binary32 (pos c.args.distance)) c.args.factor)) = bounded c.args.distance (omega arith) c.args.factor c.requires.1 in within'))

pub truncating_f32_to_u64-requires-clause-upper_bound : goal.truncating_f32_to_u64-requires-clause-upper_bound
truncating_f32_to_u64-requires-clause-upper_bound c =
    let k = c.args.distance * 16 in
    under k ((mul binary32 (of_int binary32 (pos c.args.distance)) c.args.factor)) (omega arith) ((let within' : Within (c.args.distance * 16) ((mul binary32 (of_int binary32 (pos c.args.distance)) c.args.factor)) = bounded c.args.distance (omega arith) c.args.factor c.requires.1 in within'))

pub overflow_cast-result : goal.overflow_cast-result
overflow_cast-result c = omega (arith, (let cut' : c.truncating_f32_to_u64.result ≤ c.args.distance * 16 = rw c.truncating_f32_to_u64.ensures (cut_le 64 (c.args.distance * 16) ((mul binary32 (of_int binary32 (pos c.args.distance)) c.args.factor)) ((let within' : Within (c.args.distance * 16) ((mul binary32 (of_int binary32 (pos c.args.distance)) c.args.factor)) = bounded c.args.distance (omega arith) c.args.factor c.requires.1 in within'))) in cut'))

pub returns : goal.returns
unfolding scale_of
returns c = (c.truncating_f32_to_u64.ensures ∙ cut_same (c.args.distance * 16) ((mul binary32 (of_int binary32 (pos c.args.distance)) c.args.factor)) (omega arith) ((let within' : Within (c.args.distance * 16) ((mul binary32 (of_int binary32 (pos c.args.distance)) c.args.factor)) = bounded c.args.distance (omega arith) c.args.factor c.requires.1 in within')), (let cut' : c.truncating_f32_to_u64.result ≤ c.args.distance * 16 = rw c.truncating_f32_to_u64.ensures (cut_le 64 (c.args.distance * 16) ((mul binary32 (of_int binary32 (pos c.args.distance)) c.args.factor)) ((let within' : Within (c.args.distance * 16) ((mul binary32 (of_int binary32 (pos c.args.distance)) c.args.factor)) = bounded c.args.distance (omega arith) c.args.factor c.requires.1 in within'))) in cut'))
