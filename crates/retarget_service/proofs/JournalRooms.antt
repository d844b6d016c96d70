-- The room of a journal is a number of 64 bits.
use Rattle.std.proofs.Common.{ℕ, ◌*◌, ◌<◌, ◌≤◌, ◌^◌, arith, mul-le-mul_right}

-- items of 32 bits, each with few steps
pub few-turns : (items steps : ℕ) → items < 2 ^ 32 → steps < 256 → items * steps < 2 ^ 40
few-turns items steps small short =
    let most : items ≤ 4_294_967_295 = omega (arith, small) in
    omega (arith, mul-le-mul_right steps most, short)
