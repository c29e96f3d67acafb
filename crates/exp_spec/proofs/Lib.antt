mod Sizes
mod LengthFields
mod SpecWrites
mod SizeWrites
mod SpecHeads
mod ZeroAddresses
