mod Cutting
mod Heading
mod Standing
