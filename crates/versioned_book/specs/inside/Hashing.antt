-- The place of a key in the map's index; no other contract depends on it
use Rattle.std.specs.Prelude.{ℕ, ◌*◌, ◌/◌, ◌%◌, ◌^◌, bit_xor}

-- the two halves of the 128 bits of a product by a fixed factor, joined by xor
unfoldable pub spread : ℕ → ℕ
spread row = bit_xor (row * 0x9e37_79b9_7f4a_7c15 % 2 ^ 64) (row * 0x9e37_79b9_7f4a_7c15 / 2 ^ 64)
