-- The number at the front of a list of bytes, as std's conversions to and from bytes have it. Assumes nothing.
use Rattle.std.proofs.Common.{◌≡◌, ℕ, zero, suc, ◌+◌, ◌*◌, ◌/◌, ◌%◌, ◌^◌, ◌<◌, ◌≤◌, List, length, get_or, take, slice_index, Some, refl, sym, ap, ◌∙◌, arith, le-ltb, get_or-take, one-add}
use Rattle.std.proofs.Math.Nat.{pow-suc, div-div-eq-div-mul, mul_assoc, zero-add, add-zero, add_assoc}
use Rattle.std.specs.Int.{byte_at, byte_worth, bytes_low_first, sum_through}
use Rattle.system_bus.specs.Bytes.{value_at, bytes_of, front}

-- ---- reads

-- the value goes by the n bytes alone
pub value_same : (n : ℕ) (m m' : List ℕ) (i i' : ℕ) → ((k : ℕ) → k < n → get_or m (i + k) 0 ≡ get_or m' (i' + k) 0) → value_at n m i ≡ value_at n m' i'
unfolding value_at
value_same zero m m' i i' h = refl
value_same (suc n) m m' i i' h =
    let first : get_or m i 0 ≡ get_or m' i' 0 = rw (add-zero i, add-zero i') at (h 0 (omega arith))
    in let rest = value_same n m m' (i + 1) (i' + 1) (λ k g. rw (add_assoc i 1 k, add_assoc i' 1 k, one-add k) (h (suc k) (omega arith)))
    in rw (first, rest)

-- one byte more, above the others
value_more : (n : ℕ) (m : List ℕ) (i : ℕ) → value_at n m i + get_or m (i + n) 0 * 256 ^ n ≡ value_at (suc n) m i
unfolding value_at
value_more zero m i = simp add-zero (omega arith)
value_more (suc n) m i =
    let e : i + 1 + n ≡ i + suc n = omega arith
    in let rest = rw e at (value_more n m (i + 1))
    in rw (pow-suc 256 n) (omega (arith, rest, mul_assoc (get_or m (i + suc n) 0) (256 ^ n) 256))

summed : (n : ℕ) (m : List ℕ) → sum_through (λ i. byte_worth i (slice_index m i)) n ≡ value_at (suc n) m 0
unfolding value_at
summed zero m = omega arith
summed (suc n) m =
    let e : 0 + suc n ≡ suc n = omega arith
    in rw (summed n m) (rw e at (value_more (suc n) m 0))

pub loaded : (n : ℕ) (bs : List ℕ) {xs : List ℕ} {v : ℕ} → suc n ≤ length bs → xs ≡ take (suc n) bs → v ≡ sum_through (λ i. byte_worth i (slice_index xs i)) n
    → Some v ≡ front (λ (x : ℕ). x) (suc n) bs
loaded n bs {xs} h e p = rw (le-ltb (length bs) (suc n) h) (ap Some (p ∙ summed n xs ∙ value_same (suc n) xs bs 0 0 (λ k g. rw (zero-add, e) (get_or-take (suc n) bs k 0 g))))

-- ---- writes

byte_there : (i v : ℕ) → byte_at i v ≡ v / 256 ^ i % 256
byte_there zero v = omega arith
byte_there (suc i) v = refl

bytes_there : (i n v : ℕ) → bytes_low_first i n v ≡ bytes_of n (v / 256 ^ i)
unfolding bytes_of
bytes_there i zero v = refl
bytes_there i (suc n) v = rw (byte_there i v, bytes_there (suc i) n v, pow-suc, ← div-div-eq-div-mul v (256 ^ i) 256)

pub stored : (n v : ℕ) → bytes_of n v ≡ bytes_low_first 0 n v
stored n v = ap (bytes_of n) (omega arith) ∙ sym (bytes_there 0 n v)

pub length_bytes : (n v : ℕ) → length (bytes_of n v) ≡ n
unfolding bytes_of
length_bytes zero v = refl
length_bytes (suc n) v = ap suc (length_bytes n (v / 256))
