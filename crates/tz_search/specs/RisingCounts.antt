-- Counts of probes as they rise.
use Rattle.std.{specs.Prelude.{ℕ, ◌≡◌, ◌+◌, ◌^◌, ◌<◌}, proofs.Common.{arith, ap}}
use Rattle.tz_search.specs.Counts.{Counts}

-- c with k more transition probes
abbrev pub reads_more : Counts → ℕ → Counts
reads_more c k = record c { reads = c.reads + k }

pub reads_more_on : (c : Counts) (j k : ℕ) → reads_more (reads_more c j) k ≡ reads_more c (j + k)
reads_more_on c j k = ap (λ n. record c { reads = n }) (omega arith)

pub reads_more_none : (c : Counts) → reads_more c 0 ≡ c
reads_more_none c = ap (λ n. record c { reads = n }) (omega arith)

pub reads_more_probed : (c : Counts) (k : ℕ) → (reads_more c k).reads ≡ c.reads + k
reads_more_probed c k = omega arith

-- c with k more piece probes
abbrev pub pieces_more : Counts → ℕ → Counts
pieces_more c k = record c { piece_reads = c.piece_reads + k }

pub pieces_more_on : (c : Counts) (j k : ℕ) → pieces_more (pieces_more c j) k ≡ pieces_more c (j + k)
pieces_more_on c j k = ap (λ n. record c { piece_reads = n }) (omega arith)

pub pieces_more_none : (c : Counts) → pieces_more c 0 ≡ c
pieces_more_none c = ap (λ n. record c { piece_reads = n }) (omega arith)

pub pieces_more_probed : (c : Counts) (k : ℕ) → (pieces_more c k).piece_reads ≡ c.piece_reads + k
pieces_more_probed c k = omega arith

-- the count can rise by that much more within 128 bits
abbrev pub HasRoomFor : ℕ → ℕ → Type 0
HasRoomFor more count = count + more < 2 ^ 128
