-- The laws of statuses.
use Rattle.std.proofs.Common.{Bool, true, false, refl}
use Rattle.top_call.specs.declared.statuses.Status.TheVariants as S
use Rattle.top_call.specs.Statuses.{Rows, RowsLaw, NumbersLaw}

-- by the first cause that holds
rows-of : (n s u r : Bool) → Rows (record { no_memory = n; store_fault = s; unwritten = u; refused = r })
rows-of true s u r = record { no_memory = (λ e. refl, λ e. refl); store_fault = (λ e. cc, λ e. cc); write_fault = (λ e. cc, λ e. cc); refused = (λ e. cc, λ e. cc); ok = (λ e. cc, λ e. cc) }
rows-of false true u r = record { no_memory = (λ e. cc, λ e. cc); store_fault = (λ e. (refl, refl), λ e. refl); write_fault = (λ e. cc, λ e. cc); refused = (λ e. cc, λ e. cc); ok = (λ e. cc, λ e. cc) }
rows-of false false true r = record { no_memory = (λ e. cc, λ e. cc); store_fault = (λ e. cc, λ e. cc); write_fault = (λ e. (refl, refl, refl), λ e. refl); refused = (λ e. cc, λ e. cc); ok = (λ e. cc, λ e. cc) }
rows-of false false false true = record { no_memory = (λ e. cc, λ e. cc); store_fault = (λ e. cc, λ e. cc); write_fault = (λ e. cc, λ e. cc); refused = (λ e. (refl, refl, refl, refl), λ e. refl); ok = (λ e. cc, λ e. cc) }
rows-of false false false false = record { no_memory = (λ e. cc, λ e. cc); store_fault = (λ e. cc, λ e. cc); write_fault = (λ e. cc, λ e. cc); refused = (λ e. cc, λ e. cc); ok = (λ e. (refl, refl, refl, refl), λ e. refl) }

pub rows-all : RowsLaw
rows-all c = rows-of c.no_memory c.store_fault c.unwritten c.refused

-- each pair of different statuses has different numbers
pub numbers-tell : NumbersLaw
numbers-tell S.Ok S.Ok e = refl
numbers-tell S.Ok S.Refused e = cc
numbers-tell S.Ok (S.Usage fault') e = cc
numbers-tell S.Ok (S.Script line' kind') e = cc
numbers-tell S.Ok S.ReadFault e = cc
numbers-tell S.Ok S.WriteFault e = cc
numbers-tell S.Ok S.StoreFault e = cc
numbers-tell S.Ok S.NoMemory e = cc
numbers-tell S.Refused S.Ok e = cc
numbers-tell S.Refused S.Refused e = refl
numbers-tell S.Refused (S.Usage fault') e = cc
numbers-tell S.Refused (S.Script line' kind') e = cc
numbers-tell S.Refused S.ReadFault e = cc
numbers-tell S.Refused S.WriteFault e = cc
numbers-tell S.Refused S.StoreFault e = cc
numbers-tell S.Refused S.NoMemory e = cc
numbers-tell (S.Usage fault) S.Ok e = cc
numbers-tell (S.Usage fault) S.Refused e = cc
numbers-tell (S.Usage fault) (S.Usage fault') e = refl
numbers-tell (S.Usage fault) (S.Script line' kind') e = cc
numbers-tell (S.Usage fault) S.ReadFault e = cc
numbers-tell (S.Usage fault) S.WriteFault e = cc
numbers-tell (S.Usage fault) S.StoreFault e = cc
numbers-tell (S.Usage fault) S.NoMemory e = cc
numbers-tell (S.Script line kind) S.Ok e = cc
numbers-tell (S.Script line kind) S.Refused e = cc
numbers-tell (S.Script line kind) (S.Usage fault') e = cc
numbers-tell (S.Script line kind) (S.Script line' kind') e = refl
numbers-tell (S.Script line kind) S.ReadFault e = cc
numbers-tell (S.Script line kind) S.WriteFault e = cc
numbers-tell (S.Script line kind) S.StoreFault e = cc
numbers-tell (S.Script line kind) S.NoMemory e = cc
numbers-tell S.ReadFault S.Ok e = cc
numbers-tell S.ReadFault S.Refused e = cc
numbers-tell S.ReadFault (S.Usage fault') e = cc
numbers-tell S.ReadFault (S.Script line' kind') e = cc
numbers-tell S.ReadFault S.ReadFault e = refl
numbers-tell S.ReadFault S.WriteFault e = cc
numbers-tell S.ReadFault S.StoreFault e = cc
numbers-tell S.ReadFault S.NoMemory e = cc
numbers-tell S.WriteFault S.Ok e = cc
numbers-tell S.WriteFault S.Refused e = cc
numbers-tell S.WriteFault (S.Usage fault') e = cc
numbers-tell S.WriteFault (S.Script line' kind') e = cc
numbers-tell S.WriteFault S.ReadFault e = cc
numbers-tell S.WriteFault S.WriteFault e = refl
numbers-tell S.WriteFault S.StoreFault e = cc
numbers-tell S.WriteFault S.NoMemory e = cc
numbers-tell S.StoreFault S.Ok e = cc
numbers-tell S.StoreFault S.Refused e = cc
numbers-tell S.StoreFault (S.Usage fault') e = cc
numbers-tell S.StoreFault (S.Script line' kind') e = cc
numbers-tell S.StoreFault S.ReadFault e = cc
numbers-tell S.StoreFault S.WriteFault e = cc
numbers-tell S.StoreFault S.StoreFault e = refl
numbers-tell S.StoreFault S.NoMemory e = cc
numbers-tell S.NoMemory S.Ok e = cc
numbers-tell S.NoMemory S.Refused e = cc
numbers-tell S.NoMemory (S.Usage fault') e = cc
numbers-tell S.NoMemory (S.Script line' kind') e = cc
numbers-tell S.NoMemory S.ReadFault e = cc
numbers-tell S.NoMemory S.WriteFault e = cc
numbers-tell S.NoMemory S.StoreFault e = cc
numbers-tell S.NoMemory S.NoMemory e = refl
