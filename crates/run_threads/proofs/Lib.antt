mod Handling
